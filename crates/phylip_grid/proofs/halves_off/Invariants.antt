-- No row passed so far has a cell that is other than what is due there.
use mathlib.Core.Path.{◌≡◌}
use mathlib.Core.Bool.{false}
use Prim.Native.Nat.{ℕ, ◌-◌, ◌≤◌, ◌<◌}
use Rattle.verdict.specs.Table.{some}
use Rattle.phylip_grid.specs.Grid.{cell_off}
use Rattle.phylip_grid.proofs.halves_off.Given as goal

abbrev pub invariant-loop-i : goal.invariant-loop-i
invariant-loop-i l = (l.i ≤ l.n) × ((k : ℕ) → k < l.i → some l.n (cell_off l.grid k) ≡ false)
