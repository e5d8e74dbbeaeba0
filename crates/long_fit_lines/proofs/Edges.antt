-- The lines of the edges, one behind another: each takes at most `widest_edge` bytes, so there is room for the next.
use mathlib.Core.Path.{◌≡◌, refl, subst}
use mathlib.Core.List.{List, [], ◌∷◌}
use Prim.Native.Nat.{ℕ, ◌+◌, ◌*◌, ◌≤◌, ◌<◌}
use native.Mathlib.Nat.{mul-le-mul_left}
use native.Mathlib.Numerals.{add-one}
use native.Mathlib.Omega.{arith}
use lib.IntN.{ℤ, pos}
use lib.ListN.{length}
use Rattle.exact.specs.Table.{entry_of}
use Rattle.writing.specs.Text.{Wrote}
use Rattle.writing.proofs.Writing.{wrote_none, wrote_then, wrote-length}
use Rattle.lines.specs.Lines.{line_by, edge_word, edge_lines_by}
use Rattle.long_theory.specs.Long.{long_numerator}
use Rattle.long_writing.specs.Decimals.{long_signed}
use Rattle.long_fields.specs.Fields.{widest_edge}

-- what a line says of an edge
abbrev pub row : ℕ → List ℕ → List ℤ → List ℤ → ℕ → List ℤ
row K Ds ns ms v = long_numerator (length Ds) K ns v ∷ entry_of ms v ∷ []

-- the lines of v of K edges stand there
pub record Edging (K : ℕ) (zs : ℕ → List ℤ) (b c : List ℕ) (at v next : ℕ) : Type 0 where
  pub here : v ≤ K
  pub same : length c ≡ length b
  pub wrote : Wrote b c at (edge_lines_by long_signed v zs) next
  pub near : next ≤ at + widest_edge * v

module _ (K : ℕ) (zs : ℕ → List ℤ) (b : List ℕ) (at : ℕ) where
  pub edging_start : Edging K zs b b at 0 at
  unfolding edge_lines_by
  edging_start = record { here = omega arith; same = refl; wrote = wrote_none b at; near = omega arith }

  module _ (room : at + widest_edge * K ≤ length b) {c : List ℕ} {v next : ℕ} (w : Edging K zs b c at v next) (l : v < K) where
    pub edging_room : next + widest_edge ≤ length c
    edging_room = omega (arith, w.near, w.same, mul-le-mul_left {m = v + 1} {n = K} widest_edge (omega arith))

    more : {d : List ℕ} {last : ℕ} → Wrote c d next (line_by long_signed edge_word (pos v ∷ zs v)) last → Wrote b d at (edge_lines_by long_signed (v + 1) zs) last
    unfolding edge_lines_by
    more t = rw (add-one v) (wrote_then (omega (arith, w.wrote.place, edging_room, w.same)) w.wrote t)

    pub edging_turn : {d : List ℕ} {last : ℕ} → length (line_by long_signed edge_word (pos v ∷ zs v)) ≤ widest_edge → Wrote c d next (line_by long_signed edge_word (pos v ∷ zs v)) last → Edging K zs b d at (v + 1) last
    edging_turn {d} {last} short t = record {
      here = omega arith;
      same = omega (arith, w.same, wrote-length {b = c} {c = d} (omega (arith, edging_room)) t);
      wrote = more t;
      near = omega (arith, w.near, t.place);
    }

  pub edging_end : {c : List ℕ} {v next : ℕ} → K ≤ v → Edging K zs b c at v next → Wrote b c at (edge_lines_by long_signed K zs) next × (next ≤ at + widest_edge * K)
  edging_end {c} {v} {next} h w = let e : v ≡ K = omega (arith, w.here) in subst (λ (i : ℕ). Wrote b c at (edge_lines_by long_signed i zs) next × (next ≤ at + widest_edge * i)) e (w.wrote, w.near)
