-- The row grows from the root's place on.
use Prim.Native.Nat.{◌-◌}
use Rattle.exact.specs.Table.{entry_of}
use Rattle.tree_theory.specs.Chain.{parent_of}
use Rattle.inner_paths.proofs.Reaching.{Reaching}
use Rattle.inner_paths.proofs.reach.Given as goal

abbrev pub invariant-loop-b : goal.invariant-loop-b
invariant-loop-b l = Reaching l.edges (parent_of l.parents) (entry_of l.x) l.a l.between l.b
