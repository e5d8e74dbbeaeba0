-- From the root down a vertex comes to the table at each turn.
use Prim.Native.Nat.{◌+◌, ◌-◌, ◌≤◌}
use Rattle.exact.specs.Table.{entry_of}
use Rattle.tree_theory.specs.Chain.{parent_of}
use Rattle.inner_paths.specs.Between.{Between}
use Rattle.inner_paths.proofs.fill_paths.Given as goal

abbrev pub invariant-loop-a : goal.invariant-loop-a
invariant-loop-a l = (l.n ≤ l.a) × (l.a ≤ l.edges) × Between l.edges (parent_of l.parents) (entry_of l.x) (l.edges - l.a + 1) l.between
