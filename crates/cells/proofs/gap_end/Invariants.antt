-- The gap is followed byte by byte; a CR is looked at with the byte behind it.
use Rattle.cells.proofs.Fronts.{GapAt}
use Rattle.cells.proofs.gap_end.Given as goal

abbrev pub invariant-loop-end : goal.invariant-loop-end
invariant-loop-end l = GapAt l.text l.at l.end
