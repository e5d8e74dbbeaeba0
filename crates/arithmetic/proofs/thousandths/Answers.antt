-- The magnitude is rounded, which is small enough to fit, and takes n's sign.
use Rattle.std.proofs.Common.{◌≡◌, ℕ, suc, ◌*◌, ◌^◌, ◌<◌, ◌≤◌, true, false, ℤ, pos, ◌-ℤ◌, neg_ℤ, nat_abs, sym, ap, ◌∙◌, arith, to_z-of_z, w64, SFits, to_z, of_z}
use lib.IntN.{+ℤ_idl}
use lib.Signed.{le_z, mag}
use Rattle.exact.specs.Nearest.{nearest, nearest_even}
use Rattle.exact.proofs.Rounding.{nearest-bound}
use Rattle.exact.proofs.Sign.{fits_abs, back-pos, is_pos, is_neg, nat_abs_sub}
use Rattle.arithmetic.proofs.thousandths.Goals as goal
use Rattle.arithmetic.proofs.thousandths.Goals.{After-magnitude, After-nearest_even-rounded}

-- the rounded magnitude with its sign is `nearest`
from_zero : (D : ℕ) (n : ℤ) → le_z (pos 0) n ≡ true → pos (nearest_even D (1000 * nat_abs n)) ≡ nearest D n
unfolding nearest
from_zero D n g = ap (nearest D) (sym (is_pos n g))

below-zero : (D : ℕ) (n : ℤ) → le_z (pos 0) n ≡ false → pos 0 -ℤ pos (nearest_even D (1000 * nat_abs n)) ≡ nearest D n
unfolding nearest
below-zero D n g =
    ap (λ x. pos 0 -ℤ pos (nearest_even D (1000 * nat_abs x))) (is_neg n g)
    ∙ +ℤ_idl (neg_ℤ (pos (nearest_even D (1000 * suc (mag n)))))
    ∙ ap (nearest D) (sym (is_neg n g))

bound : (D a : ℕ) → 1 ≤ D → nearest_even D (1000 * a) ≤ 1000 * a
unfolding nearest
bound D a h = nearest-bound D (pos a) h

-- a difference of two small numbers fits; the code's 0 is one
difference : (x y : ℤ) → nat_abs x < 2 ^ 62 → nat_abs y < 2 ^ 62 → SFits w64 (x -ℤ y)
difference x y h k = fits_abs (x -ℤ y) (omega (arith, nat_abs_sub x y))

zero-small : nat_abs (to_z w64 0) < 2 ^ 62
zero-small = omega arith

module _ (c : After-magnitude) where
  same : to_z w64 (of_z w64 c.args.n) ≡ c.args.n
  same = to_z-of_z c.ranges.n

  size : c.magnitude.result ≡ nat_abs c.args.n
  size = simp same at c.magnitude.ensures

-- `rounded`, as a number
module _ (c : After-nearest_even-rounded) where
  abbrev n : ℤ
  n = c.args.n

  abbrev d : ℕ
  d = c.args.d

  abbrev m : ℕ
  m = nearest_even d (1000 * nat_abs n)

  rounded : c.nearest_even-rounded.result ≡ m
  rounded = c.nearest_even-rounded.ensures ∙ ap (λ x. nearest_even d (1000 * x)) (size c.before)

  small : m < 2 ^ 62
  small = omega (arith, bound d (nat_abs n) (omega arith))

  number : to_z w64 m ≡ pos m
  number = back-pos m (omega (arith, small))

  negative : SFits w64 (pos 0 -ℤ pos m)
  negative = difference (pos 0) (pos m) (omega arith) small

pub overflow_mul-magnitude : goal.overflow_mul-magnitude
overflow_mul-magnitude c = record { fits = omega (arith, size c) }

pub nearest_even-rounded-requires : goal.nearest_even-rounded-requires
nearest_even-rounded-requires c = (omega (arith, size c), omega arith)

pub overflow_cast-rounded : goal.overflow_cast-rounded
overflow_cast-rounded c = simp (rounded c) (record { sfits = omega (arith, small c) })

pub overflow_sub-result : goal.overflow_sub-result
overflow_sub-result c = simp (rounded c.before, number c.before) (search (difference, zero-small, small c.before))

pub returns-then-n-ge0 : goal.returns-then-n-ge0
returns-then-n-ge0 c = simp (rounded c.before, number c.before)
    (from_zero (d c.before) (n c.before) (simp (same c.before.before) at c.if-n-ge0.true))

pub returns-else-n-ge0 : goal.returns-else-n-ge0
returns-else-n-ge0 c = simp (rounded c.before, number c.before, to_z-of_z (negative c.before))
    (below-zero (d c.before) (n c.before) (simp (same c.before.before) at c.if-n-ge0.false))
