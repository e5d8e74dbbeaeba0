-- After v turns the lines of the first v edges stand there.
use Prim.Native.Nat.{◌-◌}
use Rattle.long_fit_lines.proofs.Edges.{row, Edging}
use Rattle.long_fit_lines.proofs.edge_lines.Given as goal

abbrev pub invariant-loop-v : goal.invariant-loop-v
invariant-loop-v l = Edging l.edges (row l.edges l.d l.digits l.rounded) l.initial.text l.text l.at l.v l.next
