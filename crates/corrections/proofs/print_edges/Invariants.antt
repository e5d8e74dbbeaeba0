-- One edge a turn.
use Prim.Native.Nat.{◌≤◌, ◌-◌}
use Rattle.corrections.proofs.print_edges.Given as goal

abbrev pub invariant-loop-v : goal.invariant-loop-v
invariant-loop-v g l = l.v ≤ l.edges
