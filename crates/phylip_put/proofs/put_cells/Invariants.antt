-- A cell a turn, behind those before it.
use Prim.Native.Nat.{◌-◌}
use Rattle.phylip_text.specs.Text.{cell_written, value_at}
use Rattle.pieces.proofs.Written.{PiecesAt}
use Rattle.phylip_put.proofs.put_cells.Given as goal

abbrev pub invariant-loop-j : goal.invariant-loop-j
invariant-loop-j l = PiecesAt l.initial.text l.at l.n (λ k. cell_written (value_at l.distances l.i k)) l.text l.next l.j
