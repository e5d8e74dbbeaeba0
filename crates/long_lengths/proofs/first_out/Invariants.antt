-- No numerator so far is out of its range.
use mathlib.Core.Path.{◌≡◌}
use mathlib.Core.Bool.{false}
use Prim.Native.Nat.{ℕ, ◌<◌, ◌≤◌}
use Rattle.long_theory.specs.Tests.{long_numerator_out}
use Rattle.long_lengths.proofs.first_out.Given as goal

abbrev pub invariant-loop-v : goal.invariant-loop-v
invariant-loop-v l = (l.v ≤ l.edges) × ((i : ℕ) → i < l.v → long_numerator_out l.edges l.d l.digits i ≡ false)
