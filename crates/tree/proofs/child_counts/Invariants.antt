-- `child_counts`: after v turns the table holds how many of the vertices below v are children of each vertex.
use mathlib.Core.Path.{◌≡◌}
use Prim.Native.Nat.{◌≤◌, ◌-◌}
use lib.ListN.{length}
use Rattle.tree_theory.specs.Chain.{parent_of}
use Rattle.tree.proofs.Tally.{Tallied}
use Rattle.tree.proofs.child_counts.Given as goal

abbrev pub invariant-loop-parent : goal.invariant-loop-parent
invariant-loop-parent l = (l.parent-index ≤ length l.parents) × (length l.counts ≡ 126) × Tallied (parent_of l.parents) l.parent-index l.counts
