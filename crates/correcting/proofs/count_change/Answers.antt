-- Two small numbers, one taken off the other.
use mathlib.Core.Path.{◌∙◌, ap₂}
use lib.IntN.{◌-ℤ◌}
use Rattle.correcting.proofs.Changing.{ind-small, difference-fits, difference-back}
use Rattle.correcting.proofs.count_change.Goals as goal

pub overflow_sub-result : goal.overflow_sub-result
overflow_sub-result c = difference-fits c.count_of.result c.count_of-2.result (ind-small _ _ c.count_of.ensures) (ind-small _ _ c.count_of-2.ensures)

pub returns : goal.returns
returns c = difference-back c.count_of.result c.count_of-2.result (ind-small _ _ c.count_of.ensures) (ind-small _ _ c.count_of-2.ensures) ∙ ap₂ ◌-ℤ◌ c.count_of.ensures c.count_of-2.ensures
