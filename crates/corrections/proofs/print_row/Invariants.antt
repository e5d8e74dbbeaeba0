-- One later strain a turn, and its pair has a place.
use Prim.Native.Nat.{◌≤◌, ◌<◌, ◌-◌}
use native.Mathlib.Omega.{arith}
use Rattle.matrix.proofs.Places.{place-bound, pairs-few}
use Rattle.corrections.proofs.print_row.Given as goal

abbrev pub invariant-loop-j : goal.invariant-loop-j
invariant-loop-j g l = (l.i < l.j) × (l.j ≤ l.n)
