-- Each step is the number that it stands for.
use Rattle.std.proofs.Common.{◌≡◌, ◌+ℤ◌, ◌*ℤ◌, ap₂, to_z-of_z, w64, to_z, of_z}
use Rattle.path_sums.proofs.Worked.{fits_as, back_as}
use Rattle.edge_numbers.proofs.blend.Goals as goal
use Rattle.edge_numbers.proofs.blend.Goals.{Start}

module _ (c : Start) where
  first : to_z w64 (of_z w64 c.args.a) *ℤ to_z w64 (of_z w64 c.args.x) ≡ c.args.a *ℤ c.args.x
  first = ap₂ ◌*ℤ◌ (to_z-of_z c.ranges.a) (to_z-of_z c.ranges.x)

  second : to_z w64 (of_z w64 c.args.b) *ℤ to_z w64 (of_z w64 c.args.y) ≡ c.args.b *ℤ c.args.y
  second = ap₂ ◌*ℤ◌ (to_z-of_z c.ranges.b) (to_z-of_z c.ranges.y)

pub overflow_mul-result : goal.overflow_mul-result
overflow_mul-result c = fits_as (first c) c.requires.0

pub overflow_mul-result-2 : goal.overflow_mul-result-2
overflow_mul-result-2 c = fits_as (second c) c.requires.1

pub overflow_add-result : goal.overflow_add-result
overflow_add-result c = fits_as (ap₂ ◌+ℤ◌ (back_as (first c) c.requires.0) (back_as (second c) c.requires.1)) c.requires.2

pub returns : goal.returns
returns c = back_as (ap₂ ◌+ℤ◌ (back_as (first c) c.requires.0) (back_as (second c) c.requires.1)) c.requires.2
