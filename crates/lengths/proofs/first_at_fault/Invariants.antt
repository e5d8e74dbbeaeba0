-- No numerator passed so far is at fault.
use Prim.Native.Nat.{ℕ, ◌≤◌, ◌<◌, ◌-◌}
use mathlib.Core.Path.{◌≡◌}
use mathlib.Core.Bool.{false}
use lib.IntN.{pos}
use lib.ListN.{length, get_or}
use Rattle.lengths.specs.Tests.{fault_by}
use Rattle.lengths.proofs.first_at_fault.Given as goal

abbrev pub invariant-loop-v : goal.invariant-loop-v
invariant-loop-v l = (l.v ≤ length l.numerators) × ((i : ℕ) → i < l.v → fault_by l.ask (get_or l.numerators i (pos 0)) ≡ false)
