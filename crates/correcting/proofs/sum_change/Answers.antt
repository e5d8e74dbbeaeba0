-- Two small numbers, one taken off the other.
use mathlib.Core.Path.{◌∙◌, ap₂}
use native.Mathlib.Omega.{arith}
use lib.IntN.{◌-ℤ◌}
use Rattle.correcting.proofs.Changing.{pos-small, difference-fits, difference-back}
use Rattle.correcting.proofs.sum_change.Goals as goal

pub overflow_sub-result : goal.overflow_sub-result
overflow_sub-result c = difference-fits c.distance_of.result c.distance_of-2.result (pos-small _ _ (omega arith) c.distance_of.ensures) (pos-small _ _ (omega arith) c.distance_of-2.ensures)

pub returns : goal.returns
returns c = difference-back c.distance_of.result c.distance_of-2.result (pos-small _ _ (omega arith) c.distance_of.ensures) (pos-small _ _ (omega arith) c.distance_of-2.ensures) ∙ ap₂ ◌-ℤ◌ c.distance_of.ensures c.distance_of-2.ensures
