-- The three sums are small.
use mathlib.Core.Path.{refl}
use native.Mathlib.Omega.{arith}
use lib.IntN.{◌+ℤ◌, ◌-ℤ◌}
use mir.Syntax.{w64}
use mir.Val.{SFits}
use mir.Facts.{to_z-of_z}
use Rattle.exact.proofs.Sign.{fits_abs, nat_abs_add, nat_abs_sub}
use Rattle.averages.proofs.twice.Goals as goal
use Rattle.averages.proofs.twice.Goals.{Start}

module _ (c : Start) where
  two : SFits w64 (c.args.x +ℤ c.args.y)
  two = fits_abs (c.args.x +ℤ c.args.y) (omega (arith, nat_abs_add c.args.x c.args.y, c.requires))

  three : SFits w64 (c.args.x +ℤ c.args.y -ℤ c.args.z)
  three = fits_abs (c.args.x +ℤ c.args.y -ℤ c.args.z)
      (omega (arith, nat_abs_add c.args.x c.args.y, nat_abs_sub (c.args.x +ℤ c.args.y) c.args.z, c.requires))

pub overflow_add-result : goal.overflow_add-result
overflow_add-result c = simp (to_z-of_z c.ranges.x, to_z-of_z c.ranges.y) (two c)

pub overflow_sub-result : goal.overflow_sub-result
overflow_sub-result c = simp (to_z-of_z c.ranges.x, to_z-of_z c.ranges.y, to_z-of_z c.ranges.z, to_z-of_z (two c)) (three c)

pub returns : goal.returns
returns c = simp (to_z-of_z c.ranges.x, to_z-of_z c.ranges.y, to_z-of_z c.ranges.z, to_z-of_z (two c), to_z-of_z (three c))
    (refl, omega (arith, nat_abs_add c.args.x c.args.y, nat_abs_sub (c.args.x +ℤ c.args.y) c.args.z, c.requires))
