-- No cell passed so far is other than what is due there.
use mathlib.Core.Path.{◌≡◌}
use mathlib.Core.Bool.{false}
use Prim.Native.Nat.{ℕ, ◌-◌, ◌≤◌, ◌<◌}
use Rattle.phylip_grid.specs.Grid.{cell_off}
use Rattle.phylip_grid.proofs.row_off.Given as goal

abbrev pub invariant-loop-j : goal.invariant-loop-j
invariant-loop-j l = (l.j ≤ l.n) × ((k : ℕ) → k < l.j → cell_off l.grid l.i k ≡ false)
