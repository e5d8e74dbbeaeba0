-- Every row passed so far is the same in both sheets.
use mathlib.Core.Path.{◌≡◌}
use Prim.Native.Nat.{ℕ, ◌≤◌, ◌<◌, ◌-◌}
use Rattle.reading.specs.Holds.{row_at}
use Rattle.comparison.proofs.same_rows.Given as goal

abbrev pub invariant-loop-k : goal.invariant-loop-k
invariant-loop-k l = (l.k ≤ l.pairs) × ((i : ℕ) → i < l.k → row_at l.s i ≡ row_at l.t i)
