-- Each step of the sum is the number that it stands for.
use mathlib.Core.Path.{◌≡◌, ap₂}
use lib.IntN.{◌+ℤ◌, ◌-ℤ◌, ◌*ℤ◌}
use mir.Syntax.{w64}
use mir.Val.{to_z, of_z}
use mir.Facts.{to_z-of_z}
use Rattle.path_sums.proofs.Worked.{fits_as, back_as}
use Rattle.path_sums.proofs.across.Goals as goal
use Rattle.path_sums.proofs.across.Goals.{Start}

module _ (c : Start) where
  beyond : to_z w64 (of_z w64 c.args.all) -ℤ to_z w64 (of_z w64 c.args.size) ≡ c.args.all -ℤ c.args.size
  beyond = ap₂ ◌-ℤ◌ (to_z-of_z c.ranges.all) (to_z-of_z c.ranges.size)

  on : to_z w64 (of_z w64 c.args.far) -ℤ to_z w64 (of_z w64 c.args.way) ≡ c.args.far -ℤ c.args.way
  on = ap₂ ◌-ℤ◌ (to_z-of_z c.ranges.far) (to_z-of_z c.ranges.way)

  first : to_z w64 (of_z w64 (to_z w64 (of_z w64 c.args.all) -ℤ to_z w64 (of_z w64 c.args.size))) *ℤ to_z w64 (of_z w64 c.args.way)
      ≡ (c.args.all -ℤ c.args.size) *ℤ c.args.way
  first = ap₂ ◌*ℤ◌ (back_as beyond c.requires.size_bound.0) (to_z-of_z c.ranges.way)

  second : to_z w64 (of_z w64 c.args.size) *ℤ to_z w64 (of_z w64 (to_z w64 (of_z w64 c.args.far) -ℤ to_z w64 (of_z w64 c.args.way)))
      ≡ c.args.size *ℤ (c.args.far -ℤ c.args.way)
  second = ap₂ ◌*ℤ◌ (to_z-of_z c.ranges.size) (back_as on c.requires.size_bound.1)

pub overflow_sub-result : goal.overflow_sub-result
overflow_sub-result c = fits_as (beyond c) c.requires.size_bound.0

pub overflow_mul-result : goal.overflow_mul-result
overflow_mul-result c = fits_as (first c) c.requires.way_bound.0

pub overflow_sub-result-2 : goal.overflow_sub-result-2
overflow_sub-result-2 c = fits_as (on c) c.requires.size_bound.1

pub overflow_mul-result-2 : goal.overflow_mul-result-2
overflow_mul-result-2 c = fits_as (second c) c.requires.way_bound.1

pub overflow_add-result : goal.overflow_add-result
overflow_add-result c = fits_as (ap₂ ◌+ℤ◌ (back_as (first c) c.requires.way_bound.0) (back_as (second c) c.requires.way_bound.1)) c.requires.way_bound_2

pub returns : goal.returns
returns c = back_as (ap₂ ◌+ℤ◌ (back_as (first c) c.requires.way_bound.0) (back_as (second c) c.requires.way_bound.1)) c.requires.way_bound_2
