-- `parts_some`: while the loop runs, no strain met so far is parted from one of its column.
use mathlib.Core.Path.{◌≡◌}
use mathlib.Core.Bool.{false}
use Prim.Native.Nat.{ℕ, ◌≤◌, ◌<◌, ◌-◌}
use lib.ListN.{get_or}
use Rattle.gaps.specs.Columns.{parts_column}
use Rattle.gaps.proofs.parts_some.Given as goal

abbrev pub invariant-loop-j : goal.invariant-loop-j
invariant-loop-j l = (l.j ≤ l.n) × ((k : ℕ) → k < l.j → parts_column l.cluster k (get_or l.masks k 0) ≡ false)
