-- The difference of two numbers that a u16 can hold, as the machine makes it.
use mathlib.Core.Path.{◌≡◌, refl, ◌∙◌, ap, ap₂}
use mathlib.Core.Bool.{Bool, true, false, cond}
use Prim.Native.Nat.{ℕ, ◌<◌, ◌^◌}
use native.Mathlib.Omega.{arith}
use lib.IntN.{ℤ, pos, nat_abs, ◌-ℤ◌}
use mir.Syntax.{w64}
use mir.Val.{to_z, of_z, SFits}
use Rattle.exact.specs.Sum.{ind}
use Rattle.exact.proofs.Sign.{nat_abs_sub, fits_abs, back}
use Rattle.exact.proofs.Sweep.{ind-one}
use Rattle.matrix.specs.Place.{is_measured, known}

-- a distance, and a count, are in that range
pub pos-small : (z : ℤ) (n : ℕ) → n < 2 ^ 16 → z ≡ pos (known n) → nat_abs z < 2 ^ 16
unfolding known
pos-small z n h e = under (is_measured n) (ap nat_abs e)
  where
    under : (b : Bool) → nat_abs z ≡ cond b n 0 → nat_abs z < 2 ^ 16
    under true q = omega arith
    under false q = omega arith

pub ind-small : (z : ℤ) (b : Bool) → z ≡ ind b → nat_abs z < 2 ^ 16
ind-small z b e = omega (arith, ap nat_abs e, ind-one b)

pub known_small : (n : ℕ) → n < 2 ^ 16 → nat_abs (pos (known n)) < 2 ^ 16
known_small n h = pos-small (pos (known n)) n h refl

module _ (x y : ℤ) (h : nat_abs x < 2 ^ 16) (k : nat_abs y < 2 ^ 16) where
  abbrev pub difference : ℤ
  difference = to_z w64 (of_z w64 x) -ℤ to_z w64 (of_z w64 y)

  difference-is : difference ≡ x -ℤ y
  difference-is = ap₂ ◌-ℤ◌ (back x (omega arith)) (back y (omega arith))

  near : nat_abs difference < 2 ^ 63
  near = omega (arith, ap nat_abs difference-is, nat_abs_sub x y)

  pub difference-fits : SFits w64 difference
  difference-fits = fits_abs difference near

  pub difference-back : to_z w64 (of_z w64 difference) ≡ x -ℤ y
  difference-back = back difference near ∙ difference-is

  -- a number that is the difference, as the machine holds it
  pub still : (z : ℤ) → z ≡ x -ℤ y → to_z w64 (of_z w64 z) ≡ x -ℤ y
  still z e = back z (omega (arith, ap nat_abs e, nat_abs_sub x y)) ∙ e
