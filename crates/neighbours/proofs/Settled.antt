-- One table of children: two that meet the contract of `child_table` are equal.
use mathlib.Core.Path.{◌≡◌, sym, ◌∙◌, ap}
use mathlib.Core.List.{List}
use Prim.Native.Nat.{ℕ, ◌+◌, ◌*◌, ◌/◌, ◌%◌, ◌<◌}
use native.Mathlib.Omega.{arith}
use lib.ListN.{length, get_or}
use lib.Seq.{ext_get_or}
use Rattle.neighbours.specs.Listed.{Listed}

pub one-listed : {K : ℕ} {par : ℕ → ℕ} {a b : List ℕ} → Listed K par a → Listed K par b → a ≡ b
one-listed {K} {par} {a} {b} p q = ext_get_or 0 a b (p.size ∙ sym q.size) at
  where
    at : (x : ℕ) → x < length a → get_or a x 0 ≡ get_or b x 0
    at x h = let e : 3 * (x / 3) + x % 3 ≡ x = omega arith in
        ap (λ (k : ℕ). get_or a k 0) (sym e) ∙ p.child (x / 3) (x % 3) (omega (arith, p.size)) (omega arith)
        ∙ sym (q.child (x / 3) (x % 3) (omega (arith, p.size)) (omega arith)) ∙ ap (λ (k : ℕ). get_or b k 0) e
