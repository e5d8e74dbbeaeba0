-- A list copied to the front of a longer table, with one value behind it: its front is the list, and behind it stands that value.
use mathlib.Core.Path.{◌≡◌, sym, ◌∙◌, ap}
use mathlib.Core.List.{List}
use Prim.Native.Nat.{ℕ, ◌≤◌}
use native.Mathlib.Decide.{dec_lt}
use native.Mathlib.Omega.{arith}
use lib.ListN.{length, get_or, take, get_or-eq_default}
use lib.Seq.{length-take-le, ext_get_or, get_or-take}
use Rattle.exact.specs.Table.{table}
use Rattle.exact.proofs.Decide.{by_cases}
use Rattle.exact.proofs.Fill.{length-table, get_or_table}

module _ {A : Type 0} (d : A) (m : ℕ) (l kept : List A) (e : kept ≡ table m (λ k. get_or l k d)) (few : length l ≤ m) where
  pub copy_size : length kept ≡ m
  copy_size = ap length e ∙ length-table m (λ k. get_or l k d)

  copy_at : (k : ℕ) → get_or kept k d ≡ get_or l k d
  copy_at k = by_cases (dec_lt k m)
      (λ h. ap (λ (x : List A). get_or x k d) e ∙ get_or_table m (λ i. get_or l i d) d k h)
      (λ h. get_or-eq_default kept d (omega (arith, copy_size)) ∙ sym (get_or-eq_default l d (omega arith)))

  pub copy_behind : (k : ℕ) → length l ≤ k → get_or kept k d ≡ d
  copy_behind k h = copy_at k ∙ get_or-eq_default l d h

  pub copy_front : take (length l) kept ≡ l
  copy_front = ext_get_or d (take (length l) kept) l size (λ i h. get_or-take (length l) kept i d (omega (arith, size)) ∙ copy_at i)
    where
      size : length (take (length l) kept) ≡ length l
      size = length-take-le (length l) kept (omega (arith, copy_size))
