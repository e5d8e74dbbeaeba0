-- One row further down in the same column.
use native.Mathlib.Omega.{arith}
use Rattle.matrix.proofs.Places.{row-place-bound, row-place-down, pairs-few}
use Rattle.matrix.proofs.row_below.Goals as goal

pub overflow_add-result : goal.overflow_add-result
overflow_add-result c = let a = c.args in record { fits = omega (arith, row-place-bound a.n a.i a.j (omega arith) (omega arith), pairs-few a.n (omega arith)) }

pub returns : goal.returns
returns c = let a = c.args in omega (arith, row-place-down a.n a.i a.j (omega arith) (omega arith))
