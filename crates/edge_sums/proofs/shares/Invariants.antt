-- `shares`: one edge a turn, whose strains are carried to its parent and meet those that are there.
use Prim.Native.Nat.{◌-◌}
use Rattle.edge_sums.proofs.Gathering.{Gathered}
use Rattle.edge_sums.proofs.shares.Given as goal

abbrev pub invariant-loop-v : goal.invariant-loop-v
invariant-loop-v l = Gathered l.n l.edges l.d l.distances l.parents l.numerators l.v l.own l.ways l.come
