-- After v turns the counts are those of the vertices below v, and each of those stands at its parent's place for it.
use mathlib.Core.Path.{◌≡◌}
use Prim.Native.Nat.{◌-◌, ◌≤◌}
use lib.ListN.{length}
use Rattle.tree_theory.specs.Limits.{max_vertices}
use Rattle.tree_theory.specs.Chain.{parent_of}
use Rattle.tree.proofs.Tally.{Tallied}
use Rattle.neighbours.specs.Listed.{child_room}
use Rattle.neighbours.proofs.Listing.{Lists}
use Rattle.neighbours.proofs.child_table.Given as goal

abbrev pub invariant-loop-v : goal.invariant-loop-v
invariant-loop-v l = (l.v ≤ length l.parents) × (length l.listed ≡ child_room) × (length l.counts ≡ max_vertices) × Tallied (parent_of l.parents) l.v l.counts × Lists (parent_of l.parents) l.v l.listed
