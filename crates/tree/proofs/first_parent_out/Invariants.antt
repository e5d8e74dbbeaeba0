-- `first_parent_out`: while the loop runs, no parent met so far is at fault.
use mathlib.Core.Path.{◌≡◌}
use mathlib.Core.Bool.{false}
use Prim.Native.Nat.{ℕ, ◌≤◌, ◌<◌, ◌-◌}
use lib.ListN.{length}
use Rattle.tree_theory.specs.Chain.{parent_of}
use Rattle.tree_theory.specs.Tests.{parent_out}
use Rattle.tree.proofs.first_parent_out.Given as goal

abbrev pub invariant-loop-v : goal.invariant-loop-v
invariant-loop-v l = (l.v ≤ length l.parents) × ((k : ℕ) → k < l.v → parent_out l.n (length l.parents) (parent_of l.parents) k ≡ false)
