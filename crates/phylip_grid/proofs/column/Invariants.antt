-- A distance a turn, from one row further down.
use Prim.Native.Nat.{◌+◌, ◌-◌, ◌≤◌}
use mathlib.Core.Path.{◌≡◌}
use lib.ListN.{length}
use Rattle.phylip_grid.specs.Grid.{Filling}
use Rattle.phylip_grid.proofs.column.Given as goal

abbrev pub invariant-loop-i : goal.invariant-loop-i
invariant-loop-i l = (l.i ≤ l.j) × (length l.distances ≡ length l.initial.distances) × Filling l.grid (l.first + l.i) l.distances
