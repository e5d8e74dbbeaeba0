-- One later strain a turn, and its pair has a place.
use Prim.Native.Nat.{◌≤◌, ◌<◌, ◌-◌}
use native.Mathlib.Omega.{arith}
use Rattle.matrix.proofs.Places.{place-bound, pairs-few}
use Rattle.corrections.proofs.print_row.Goals as goal

pub offset_bounds-distances-place : goal.offset_bounds-distances-place
offset_bounds-distances-place g c = let a = c.args in omega (arith, c.place.ensures, place-bound a.n a.i c.loop-j.j (omega arith) (omega arith), pairs-few a.n (omega arith))

pub bounds-distances-place : goal.bounds-distances-place
bounds-distances-place g c = let a = c.args in omega (arith, c.place.ensures, place-bound a.n a.i c.loop-j.j (omega arith) (omega arith))
