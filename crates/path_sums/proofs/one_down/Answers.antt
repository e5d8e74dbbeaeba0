-- Each step of the sum is the number that it stands for.
use mathlib.Core.Path.{◌≡◌, ap, ap₂}
use lib.IntN.{ℤ, pos, ◌+ℤ◌, ◌-ℤ◌, ◌*ℤ◌}
use mir.Syntax.{w64}
use mir.Val.{to_z, of_z}
use mir.Facts.{to_z-of_z}
use Rattle.path_sums.proofs.Worked.{fits_as, back_as}
use Rattle.path_sums.proofs.one_down.Goals as goal
use Rattle.path_sums.proofs.one_down.Goals.{Start}

module _ (c : Start) where
  abbrev size_in : ℤ
  size_in = to_z w64 (of_z w64 c.args.size)

  twice : pos 2 *ℤ size_in ≡ pos 2 *ℤ c.args.size
  twice = ap (λ (y : ℤ). pos 2 *ℤ y) (to_z-of_z c.ranges.size)

  sides : to_z w64 (of_z w64 c.args.all) -ℤ to_z w64 (of_z w64 (pos 2 *ℤ size_in)) ≡ c.args.all -ℤ pos 2 *ℤ c.args.size
  sides = ap₂ ◌-ℤ◌ (to_z-of_z c.ranges.all) (back_as twice c.requires.0)

  moved : to_z w64 (of_z w64 c.args.step) *ℤ to_z w64 (of_z w64 (to_z w64 (of_z w64 c.args.all) -ℤ to_z w64 (of_z w64 (pos 2 *ℤ size_in))))
      ≡ c.args.step *ℤ (c.args.all -ℤ pos 2 *ℤ c.args.size)
  moved = ap₂ ◌*ℤ◌ (to_z-of_z c.ranges.step) (back_as sides c.requires.1)

pub overflow_mul-result : goal.overflow_mul-result
overflow_mul-result c = fits_as (twice c) c.requires.0

pub overflow_sub-result : goal.overflow_sub-result
overflow_sub-result c = fits_as (sides c) c.requires.1

pub overflow_mul-result-2 : goal.overflow_mul-result-2
overflow_mul-result-2 c = fits_as (moved c) c.requires.2

pub overflow_add-result : goal.overflow_add-result
overflow_add-result c = fits_as (ap₂ ◌+ℤ◌ (to_z-of_z c.ranges.above) (back_as (moved c) c.requires.2)) c.requires.3

pub returns : goal.returns
returns c = back_as (ap₂ ◌+ℤ◌ (to_z-of_z c.ranges.above) (back_as (moved c) c.requires.2)) c.requires.3
