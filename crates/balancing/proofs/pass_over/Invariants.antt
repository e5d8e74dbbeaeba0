-- No edge passed so far is at fault.
use mathlib.Core.Path.{◌≡◌}
use mathlib.Core.Bool.{false}
use Prim.Native.Nat.{ℕ, ◌≤◌, ◌<◌, ◌-◌}
use Rattle.exact.specs.Table.{entry_of}
use Rattle.balancing.specs.Passes.{fault_by}
use Rattle.balancing.proofs.pass_over.Given as goal

abbrev pub invariant-loop-v : goal.invariant-loop-v
invariant-loop-v l = (l.v ≤ l.edges) × ((i : ℕ) → i < l.v → fault_by l.pass (entry_of l.numerators i) (entry_of l.sums i) ≡ false)
