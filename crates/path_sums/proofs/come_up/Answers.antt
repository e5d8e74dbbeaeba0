-- Each step of the sum is the number that it stands for.
use mathlib.Core.Path.{◌≡◌, ap₂}
use lib.IntN.{◌+ℤ◌, ◌*ℤ◌}
use mir.Syntax.{w64}
use mir.Val.{to_z, of_z}
use mir.Facts.{to_z-of_z}
use Rattle.path_sums.proofs.Worked.{fits_as, back_as}
use Rattle.path_sums.proofs.come_up.Goals as goal
use Rattle.path_sums.proofs.come_up.Goals.{Start}

module _ (c : Start) where
  both : to_z w64 (of_z w64 c.args.there) +ℤ to_z w64 (of_z w64 c.args.way) ≡ c.args.there +ℤ c.args.way
  both = ap₂ ◌+ℤ◌ (to_z-of_z c.ranges.there) (to_z-of_z c.ranges.way)

  steps : to_z w64 (of_z w64 c.args.size) *ℤ to_z w64 (of_z w64 c.args.step) ≡ c.args.size *ℤ c.args.step
  steps = ap₂ ◌*ℤ◌ (to_z-of_z c.ranges.size) (to_z-of_z c.ranges.step)

pub overflow_add-result : goal.overflow_add-result
overflow_add-result c = fits_as (both c) c.requires.0

pub overflow_mul-result : goal.overflow_mul-result
overflow_mul-result c = fits_as (steps c) c.requires.1

pub overflow_add-result-2 : goal.overflow_add-result-2
overflow_add-result-2 c = fits_as (ap₂ ◌+ℤ◌ (back_as (both c) c.requires.0) (back_as (steps c) c.requires.1)) c.requires.2

pub returns : goal.returns
returns c = back_as (ap₂ ◌+ℤ◌ (back_as (both c) c.requires.0) (back_as (steps c) c.requires.1)) c.requires.2
