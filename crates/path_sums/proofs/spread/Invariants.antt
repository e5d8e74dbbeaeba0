-- The numbers that a turn reads are what stands there, and what it writes is what its vertex and its edge are to have.
use Prim.Native.Nat.{◌-◌}
use Rattle.exact.specs.Table.{entry_of}
use Rattle.tree_theory.specs.Chain.{parent_of}
use Rattle.path_sums.proofs.Spreading.{SpreadAt}
use Rattle.path_sums.proofs.spread.Given as goal

abbrev pub invariant-loop-w : goal.invariant-loop-w
invariant-loop-w l = SpreadAt l.n l.edges (parent_of l.parents) (entry_of l.x) l.w l.sizes l.ways
