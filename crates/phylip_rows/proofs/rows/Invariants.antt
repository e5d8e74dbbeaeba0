-- A row a turn, until one is not of the form; behind the last nothing may follow.
use Rattle.phylip_rows.proofs.Passing.{RowsAt}
use Rattle.phylip_rows.proofs.rows.Given as goal

abbrev pub invariant-loop-i : goal.invariant-loop-i
invariant-loop-i l = RowsAt l.text l.at l.n l.initial.grid l.grid l.initial.names l.names l.end l.out l.i
