-- `first_children_out`: while the loop runs, no vertex met so far is out; strains are not asked, and the root is tested last.
use mathlib.Core.Path.{◌≡◌}
use mathlib.Core.Bool.{false}
use Prim.Native.Nat.{ℕ, ◌≤◌, ◌<◌, ◌-◌}
use lib.ListN.{length}
use Rattle.tree_theory.specs.Chain.{parent_of}
use Rattle.tree_theory.specs.Tests.{children_out}
use Rattle.tree.proofs.first_children_out.Given as goal

abbrev pub invariant-loop-w : goal.invariant-loop-w
invariant-loop-w l = (l.n ≤ l.w) × (l.w ≤ length l.parents) × ((k : ℕ) → k < l.w → children_out l.spare l.n (length l.parents) (parent_of l.parents) k ≡ false)
