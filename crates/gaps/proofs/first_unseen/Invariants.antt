-- `first_unseen`: each edge met so far parts a measured pair.
use mathlib.Core.Path.{◌≡◌}
use mathlib.Core.Bool.{false}
use Prim.Native.Nat.{ℕ, ◌≤◌, ◌<◌, ◌-◌}
use lib.ListN.{length}
use Rattle.fit_theory.specs.Tests.{unseen}
use Rattle.gaps.proofs.first_unseen.Given as goal

abbrev pub invariant-loop-v : goal.invariant-loop-v
invariant-loop-v l = (l.v ≤ length l.parents) × ((k : ℕ) → k < l.v → unseen l.n l.distances l.parents k ≡ false)
