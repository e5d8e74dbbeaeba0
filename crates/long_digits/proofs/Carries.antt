-- A number by its top and its last digit: it is negative where its top is.
use mathlib.Core.List.{[], ◌∷◌}
use Prim.Native.Nat.{ℕ, ◌<◌}
use native.Mathlib.Omega.{arith}
use lib.IntN.{ℤ, pos, ◌+ℤ◌, ◌*ℤ◌}
use Rattle.exact.specs.Order.{◌≤ᶻ◌, ◌<ᶻ◌}
use Rattle.exact.proofs.Quote.{by-ring, quote}
use Rattle.exact.proofs.Order.{pos-≤, is-<, <-is, le-by, nn+, nn*, nn-pos, nn_sub}
use Rattle.long_digits.specs.Digits.{base}

-- over any whole number x in place of the digit
below_by : (y x : ℤ) → x +ℤ pos 1 ≤ᶻ pos base → y <ᶻ pos 0 → pos base *ℤ y +ℤ x <ᶻ pos 0
below_by y x k l = is-< (le-by (nn+ (nn* (nn-pos base) (nn_sub (<-is l))) (nn_sub k)) (by-ring (y ∷ x ∷ []) (search quote depth 20) tt))

pub below-part : (y : ℤ) (r : ℕ) → r < base → y <ᶻ pos 0 → pos base *ℤ y +ℤ pos r <ᶻ pos 0
below-part y r h l = below_by y (pos r) (pos-≤ (omega arith)) l
