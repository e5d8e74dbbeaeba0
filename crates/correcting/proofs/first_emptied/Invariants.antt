-- Every edge before v keeps a measured pair.
use mathlib.Core.Path.{◌≡◌}
use mathlib.Core.Bool.{false}
use Prim.Native.Nat.{ℕ, ◌≤◌, ◌<◌}
use lib.Dec.{eqb}
use lib.IntN.{nat_abs}
use Rattle.exact.specs.Table.{entry_of}
use Rattle.correcting.proofs.first_emptied.Given as goal

abbrev pub invariant-loop-v : goal.invariant-loop-v
invariant-loop-v l = (l.v ≤ l.edges) × ((i : ℕ) → i < l.v → eqb (nat_abs (entry_of l.counts i)) 0 ≡ false)
