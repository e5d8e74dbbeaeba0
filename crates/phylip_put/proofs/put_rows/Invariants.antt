-- A row a turn, behind those before it.
use Prim.Native.Nat.{◌-◌}
use Rattle.phylip_text.specs.Text.{row_written}
use Rattle.pieces.proofs.Written.{PiecesAt}
use Rattle.phylip_put.proofs.put_rows.Given as goal

abbrev pub invariant-loop-i : goal.invariant-loop-i
invariant-loop-i l = PiecesAt l.initial.text l.at l.n (row_written l.n l.distances l.names) l.text l.next l.i
