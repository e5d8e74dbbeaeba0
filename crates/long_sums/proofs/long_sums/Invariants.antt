-- A digit a turn.
use Prim.Native.Nat.{◌-◌}
use Rattle.long_sums.proofs.Gathering.{Gathered, levels}
use Rattle.long_sums.proofs.long_sums.Given as goal

abbrev pub invariant-loop-k : goal.invariant-loop-k
invariant-loop-k l = Gathered l.n l.edges l.levels l.d l.distances l.parents l.digits l.k l.at l.tops
