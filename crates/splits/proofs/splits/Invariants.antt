-- `splits`: one edge a turn, whose strains meet those at its upper end, but for the root.
use Rattle.std.proofs.Common.{◌-◌}
use Rattle.splits.proofs.Passing.{Passing}
use Rattle.splits.proofs.splits.Given as goal

abbrev pub invariant-loop-v : goal.invariant-loop-v
invariant-loop-v l = Passing l.n l.edges l.distances l.parents l.v l.come l.sums
