-- `parted`: each arm is the definition's, by what `has` says of the two strains.
use mathlib.Core.Path.{ap}
use mathlib.Core.Bool.{not}
use Rattle.clusters.proofs.parted.Goals as goal

pub returns-then-has : goal.returns-then-has
returns-then-has c = rw (← c.has.ensures, c.if-has.true) (ap not c.has-then-has.ensures)

pub returns : goal.returns
returns c = rw (← c.has.ensures, c.if-has.false) c.has-2.ensures
