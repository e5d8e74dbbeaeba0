-- A turn reads one cell: the gap before it, its bytes, what it is. The first that is not of the form ends the row.
use Rattle.cells.proofs.Rows.{RowAt}
use Rattle.cells.proofs.cells.Given as goal

abbrev pub invariant-loop-c : goal.invariant-loop-c
invariant-loop-c l = RowAt l.text l.at l.n l.base l.initial.entries l.entries l.end l.out l.c
