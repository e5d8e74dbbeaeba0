-- One row a turn.
use Prim.Native.Nat.{◌≤◌, ◌-◌}
use Rattle.corrections.proofs.print_pairs.Given as goal

abbrev pub invariant-loop-i : goal.invariant-loop-i
invariant-loop-i g l = l.i ≤ l.n
