-- A text written piece by piece is the text written at once: each piece goes where the one before it ends, and there is room for all.
use mathlib.Core.Path.{◌≡◌, sym, ◌∙◌, ap, subst}
use mathlib.Core.List.{List, ◌++◌}
use Prim.Native.Nat.{ℕ, ◌+◌, ◌≤◌, ◌<◌}
use native.Mathlib.Numerals.{add-one}
use native.Mathlib.Omega.{arith}
use lib.ListN.{length}
use Rattle.writing.specs.Text.{Wrote}
use Rattle.writing.proofs.Writing.{wrote_none, wrote_then, wrote-length}
use Rattle.pieces.specs.Pieces.{pieces_from, pieces}
use Rattle.pieces.proofs.Pieces.{pieces_more}

-- ---- pieces of at most w bytes: i of n are written
pub record PiecesAt (b : List ℕ) (at n : ℕ) (p : ℕ → List ℕ) (c : List ℕ) (next i : ℕ) : Type 0 where
  pub few : i ≤ n
  pub wrote : Wrote b c at (pieces i p) next

module _ (b : List ℕ) (at n : ℕ) (p : ℕ → List ℕ) where
  pub pieces-start : PiecesAt b at n p b at 0
  unfolding pieces_from
  pieces-start = record { few = omega arith; wrote = wrote_none b at }

  module _ {c : List ℕ} {next i : ℕ} (t : PiecesAt b at n p c next i) where
    pub pieces_end : n ≤ i → Wrote b c at (pieces n p) next
    pieces_end h = let e : i ≡ n = omega (arith, t.few) in subst (λ (x : ℕ). Wrote b c at (pieces x p) next) e t.wrote

    -- what they take, by what pieces of i take; there is room for one more
    module _ (w : ℕ) (long : length (pieces i p) ≤ w) where
      pub pieces-size : at + w ≤ length b → length c ≡ length b
      pieces-size room = wrote-length {s = pieces i p} (omega arith) t.wrote

      pub pieces_room : (more : ℕ) → at + w + more ≤ length b → next + more ≤ length c
      pieces_room more room = omega (arith, t.wrote.place, pieces-size (omega arith))

      pub pieces-turn : {d : List ℕ} {after : ℕ} (s : List ℕ) → i < n → at + w ≤ length b → s ≡ p i → Wrote c d next s after → PiecesAt b at n p d after (i + 1)
      pieces-turn {d} {after} s h room e v = record {
        few = omega arith;
        wrote = subst (λ (l : List ℕ). Wrote b d at l after)
            (ap (λ (x : List ℕ). pieces i p ++ x) (e ∙ ap p here) ∙ sym (pieces_more 0 i p) ∙ ap (λ (x : ℕ). pieces x p) (sym (add-one i)))
            (wrote_then (omega arith) t.wrote v);
      }
        where
          here : i ≡ 0 + i
          here = omega arith
