-- The code divides the magnitude and the denominator by the greatest number that goes into both, and keeps the sign.
use Rattle.std.proofs.Common.{◌≡◌, ℕ, suc, ◌/◌, ◌^◌, ◌<◌, ◌≤◌, true, false, ℤ, pos, ◌-ℤ◌, neg_ℤ, nat_abs, sym, ap, ◌∙◌, subst, div-le_self, arith, to_z-of_z, w64, SFits, to_z, of_z}
use lib.IntN.{+ℤ_idl}
use lib.Signed.{le_z, mag}
use Rattle.exact.proofs.Sign.{fits_abs, back-pos, is_pos, is_neg, nat_abs_sub}
use Rattle.exact.specs.Fraction.{◌over◌, Greatest, divided, Lowest}
use Rattle.exact.proofs.Divisors.{shared-some, reduced}
use Rattle.arithmetic.proofs.lowest.Goals as goal
use Rattle.arithmetic.proofs.lowest.Goals.{After-common-shared}

from_zero : (t : ℤ) (b g : ℕ) → Greatest (nat_abs t) b g → 1 ≤ b → le_z (pos 0) t ≡ true → Lowest (t over pos b) (pos (nat_abs t / g)) (b / g)
from_zero t b g h some e = subst (λ z. Lowest (t over pos b) z (b / g)) (ap (λ z. divided z g) (is_pos t e)) (reduced t b g h some)

below-zero : (t : ℤ) (b g : ℕ) → Greatest (nat_abs t) b g → 1 ≤ b → le_z (pos 0) t ≡ false → Lowest (t over pos b) (pos 0 -ℤ pos (nat_abs t / g)) (b / g)
below-zero t b g h some e = subst (λ z. Lowest (t over pos b) z (b / g))
    (ap (λ z. divided z g) (is_neg t e) ∙ sym (ap (λ z. pos 0 -ℤ pos (nat_abs z / g)) (is_neg t e) ∙ +ℤ_idl (neg_ℤ (pos (suc (mag t) / g)))))
    (reduced t b g h some)

module _ (c : After-common-shared) where
  same : to_z w64 (of_z w64 c.args.top) ≡ c.args.top
  same = to_z-of_z c.ranges.top

  size : c.magnitude-size.result ≡ nat_abs c.args.top
  size = simp same at c.magnitude-size.ensures

  whole : Greatest (nat_abs c.args.top) c.args.bottom c.common-shared.result
  whole = subst (λ z. Greatest z c.args.bottom c.common-shared.result) size c.common-shared.ensures

  some : 1 ≤ c.common-shared.result
  some = shared-some (nat_abs c.args.top) c.args.bottom c.common-shared.result whole c.requires.0

  small : nat_abs c.args.top / c.common-shared.result < 2 ^ 63
  small = omega (arith, div-le_self (nat_abs c.args.top) c.common-shared.result, c.requires.1)

  number : to_z w64 (nat_abs c.args.top / c.common-shared.result) ≡ pos (nat_abs c.args.top / c.common-shared.result)
  number = back-pos (nat_abs c.args.top / c.common-shared.result) small

  negative : SFits w64 (pos 0 -ℤ pos (nat_abs c.args.top / c.common-shared.result))
  negative = fits_abs (pos 0 -ℤ pos (nat_abs c.args.top / c.common-shared.result))
      (omega (arith, nat_abs_sub (pos 0) (pos (nat_abs c.args.top / c.common-shared.result)), small))

pub nonzero_div-reduced : goal.nonzero_div-reduced
nonzero_div-reduced c = some c

pub overflow_cast-reduced : goal.overflow_cast-reduced
overflow_cast-reduced c = simp (size c) (record { sfits = small c })

pub nonzero_div-below : goal.nonzero_div-below
nonzero_div-below c = some c

pub returns-then-top-ge0 : goal.returns-then-top-ge0
returns-then-top-ge0 c = simp (size c.before, number c.before)
    (from_zero c.args.top c.args.bottom c.common-shared.result (whole c.before) c.requires.0
    (simp (same c.before) at c.if-top-ge0.true))

pub overflow_sub-result : goal.overflow_sub-result
overflow_sub-result c = simp (size c.before, number c.before) (negative c.before)

pub returns : goal.returns
returns c = simp (size c.before, number c.before, to_z-of_z (negative c.before))
    (below-zero c.args.top c.args.bottom c.common-shared.result (whole c.before) c.requires.0
    (simp (same c.before) at c.if-top-ge0.false))
