use Prim.Native.Nat.{◌-◌}
use Rattle.long_sums.proofs.Topping.{Topped}
use Rattle.long_sums.proofs.long_tops.Given as goal

abbrev pub invariant-loop-k : goal.invariant-loop-k
invariant-loop-k l = Topped l.edges l.levels l.digits l.k l.at l.tops
