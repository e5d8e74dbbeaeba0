-- A byte counted down along a text: those before k, and those from k on.
use mathlib.Core.Path.{◌≡◌, sym, ◌∙◌, ap}
use mathlib.Core.Bool.{false, cond}
use mathlib.Core.List.{List}
use Prim.Native.Nat.{ℕ, ◌+◌, ◌-◌, ◌≤◌, ◌<◌}
use native.Mathlib.Decide.{ℕ_discrete}
use native.Mathlib.Omega.{arith}
use borrow.Author.Tests.{eq-eqb, ne_eqb}
use lib.Dec.{eqb}
use lib.ListN.{length, get_or, drop, drop_of_length-le}
use Rattle.exact.proofs.Decide.{by_cases}
use Rattle.newick_text.specs.Count.{occurs}
use Rattle.newick_words.proofs.Edges.{byte_at}

-- of n, so many are left
pub record Tallied (s : List ℕ) (b n left k : ℕ) : Type 0 where
  pub within : k ≤ length s
  pub sum : occurs b s + left ≡ n + occurs b (drop k s)

module _ (s : List ℕ) (b n : ℕ) where
  pub tally-start : Tallied s b n n 0
  tally-start = record { within = omega arith; sum = omega arith }

  module _ (left k : ℕ) (h : k < length s) (t : Tallied s b n left k) where
    front : occurs b (drop k s) ≡ cond (eqb (get_or s k 0) b) 1 0 + occurs b (drop (k + 1) s)
    unfolding occurs
    front = ap (occurs b) (byte_at s k h)

    one : get_or s k 0 ≡ b → occurs b (drop k s) ≡ 1 + occurs b (drop (k + 1) s)
    one e = front ∙ rw (eq-eqb (get_or s k 0) b e)

    pub tally-more : get_or s k 0 ≡ b → (left ≡ 0 → ⊥) → Tallied s b n (left - 1) (k + 1)
    tally-more e some = record { within = omega arith; sum = omega (arith, t.sum, one e, some) }

    pub tally-over : get_or s k 0 ≡ b → left ≡ 0 → false ≡ eqb (occurs b s) n
    tally-over e z = sym (ne_eqb (occurs b s) n (λ q. omega (arith, q, t.sum, one e, z)))

    pub tally-same : (get_or s k 0 ≡ b → ⊥) → Tallied s b n left (k + 1)
    tally-same e = let f : occurs b (drop k s) ≡ 0 + occurs b (drop (k + 1) s) = front ∙ rw (ne_eqb (get_or s k 0) b e) in
        record { within = omega arith; sum = omega (arith, t.sum, f) }

  pub tally-end : (left k : ℕ) → length s ≤ k → Tallied s b n left k → eqb left 0 ≡ eqb (occurs b s) n
  unfolding occurs
  tally-end left k h t = let z : occurs b (drop k s) ≡ 0 = ap (occurs b) (drop_of_length-le s h) in
      by_cases (ℕ_discrete left 0)
      (λ e. eq-eqb left 0 e ∙ sym (eq-eqb (occurs b s) n (omega (arith, t.sum, z, e))))
      (λ e. ne_eqb left 0 e ∙ sym (ne_eqb (occurs b s) n (λ q. e (omega (arith, t.sum, z, q)))))
