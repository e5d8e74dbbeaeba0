-- A byte a turn; the first that is in no name ends it.
use Rattle.phylip_rows.proofs.Naming.{NameAt}
use Rattle.phylip_rows.proofs.name.Given as goal

abbrev pub invariant-loop-k : goal.invariant-loop-k
invariant-loop-k l = NameAt l.text l.at l.base l.initial.names l.names l.k
