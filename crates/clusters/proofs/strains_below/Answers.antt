-- `strains_below`: the count of the machine is the count of the definition.
use mathlib.Core.Path.{refl}
use Rattle.clusters.proofs.strains_below.Goals as goal

pub returns : goal.returns
returns c = refl
