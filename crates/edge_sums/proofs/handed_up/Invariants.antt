-- `handed_up`: one vertex a turn, which has all that is below it.
use Prim.Native.Nat.{◌-◌}
use Rattle.edge_sums.proofs.HandingUp.{SharesAt}
use Rattle.edge_sums.proofs.handed_up.Given as goal

abbrev pub invariant-loop-v : goal.invariant-loop-v
invariant-loop-v l = SharesAt l.edges l.parents l.initial.own l.v l.own l.sums
