-- One digit more, in an i64.
use mathlib.Core.Path.{◌≡◌, sym, ◌∙◌, ap, ap₂}
use mathlib.Core.Bool.{true, false, true≢false}
use Prim.Native.Nat.{ℕ, ◌*◌, ◌^◌, ◌≤◌, ◌<◌}
use native.Mathlib.Nat.{mul-le-mul_left}
use native.Mathlib.Omega.{arith}
use borrow.Author.Tests.{ltb-true}
use lib.Dec.{le→leb}
use lib.IntN.{ℤ, pos, negsuc, neg_ℤ, nat_abs, ◌+ℤ◌, ◌*ℤ◌}
use lib.Signed.{lt_z}
use mir.Syntax.{w64}
use mir.Val.{SFits, to_z, of_z}
use Rattle.exact.proofs.Order.{pos-≤}
use Rattle.exact.proofs.Sign.{nat_abs_add, nat_abs_mul, fits_abs, back, within_abs}
use Rattle.long_digits.specs.Digits.{base}
use Rattle.long_digits.specs.Clamp.{clamp, most}
use Rattle.long_digits.proofs.Clamps.{clamp_in, clamp-high, clamp-low}

module _ (h e : ℤ) (a : nat_abs h ≤ most) (b : nat_abs e ≤ 999999 * most) where
  pub product-near : nat_abs (pos base *ℤ h) ≤ base * most
  product-near = omega (arith, nat_abs_mul (pos base) h, mul-le-mul_left base a)

  pub whole-near : nat_abs (pos base *ℤ h +ℤ e) < 2 ^ 63
  whole-near = omega (arith, nat_abs_add (pos base *ℤ h) e, product-near)

  -- the code's number
  pub code-product : to_z w64 (of_z w64 (pos base *ℤ to_z w64 (of_z w64 h))) ≡ pos base *ℤ h
  code-product = ap (λ z. to_z w64 (of_z w64 (pos base *ℤ z))) (back h (omega arith)) ∙ back (pos base *ℤ h) (omega (arith, product-near))

  pub code_sum : to_z w64 (of_z w64 (pos base *ℤ to_z w64 (of_z w64 h))) +ℤ to_z w64 (of_z w64 e) ≡ pos base *ℤ h +ℤ e
  code_sum = ap₂ ◌+ℤ◌ code-product (back e (omega arith))

  pub product-fits : SFits w64 (pos base *ℤ to_z w64 (of_z w64 h))
  product-fits = rw (back h (omega arith)) (fits_abs (pos base *ℤ h) (omega (arith, product-near)))

  pub sum_fits : SFits w64 (to_z w64 (of_z w64 (pos base *ℤ to_z w64 (of_z w64 h))) +ℤ to_z w64 (of_z w64 e))
  sum_fits = rw code_sum (fits_abs (pos base *ℤ h +ℤ e) whole-near)

  pub code-whole : to_z w64 (of_z w64 (to_z w64 (of_z w64 (pos base *ℤ to_z w64 (of_z w64 h))) +ℤ to_z w64 (of_z w64 e))) ≡ pos base *ℤ h +ℤ e
  code-whole = ap (λ z. to_z w64 (of_z w64 z)) code_sum ∙ back (pos base *ℤ h +ℤ e) whole-near

-- ---- the tests of the code
pub beyond : (z : ℤ) → lt_z (pos most) z ≡ true → pos most ≡ clamp most z
beyond (pos n) t = sym (clamp-high most (pos n) (pos-≤ (omega (arith, ltb-true most n t))))
beyond (negsuc n) t = absurd (true≢false (sym t))

pub behind : (z : ℤ) → lt_z z (negsuc 999999999999) ≡ true → negsuc 999999999999 ≡ clamp most z
behind (pos n) t = absurd (true≢false (sym t))
behind (negsuc n) t = sym (clamp-low most (negsuc n) (record { le = le→leb 999999999999 n (omega (arith, ltb-true 999999999999 n t)) }))

pub between : (z : ℤ) → lt_z (pos most) z ≡ false → lt_z z (negsuc 999999999999) ≡ false → z ≡ clamp most z
between z s t = sym (clamp_in most z (within_abs z 999999999999 s t))
