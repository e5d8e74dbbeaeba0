-- The array is written out.
use Rattle.arrays.proofs.Tables.{throughout}
use Rattle.arrays.proofs.filled.Goals as goal

pub returns-clause-throughout : goal.returns-clause-throughout
returns-clause-throughout g c = throughout _ c.args.value
