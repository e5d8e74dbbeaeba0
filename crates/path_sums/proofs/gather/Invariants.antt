-- The entries that a turn reads are what stands there, and what it writes is what stands there then.
use Prim.Native.Nat.{◌-◌}
use Rattle.exact.specs.Table.{entry_of}
use Rattle.tree_theory.specs.Chain.{parent_of}
use Rattle.path_sums.proofs.Gathering.{GatherAt}
use Rattle.path_sums.proofs.gather.Given as goal

abbrev pub invariant-loop-v : goal.invariant-loop-v
invariant-loop-v l = GatherAt l.n l.edges (parent_of l.parents) (entry_of l.x) l.v l.sizes l.ways
