-- The start of a row, without a sum, is `row-code`; everything is small.
use Prim.Native.Nat.{ℕ, ◌*◌, ◌-◌, ◌<◌, ◌≤◌}
use native.Mathlib.Nat.{mul-le-mul}
use native.Mathlib.Omega.{arith}
use Rattle.matrix.specs.Place.{row_place}
use Rattle.matrix.proofs.Places.{row-code}
use Rattle.matrix.proofs.row_place.Goals as goal

small : (n i : ℕ) → i < n → n ≤ 64 → i * (2 * n - i - 1) ≤ 64 * 128
small n i h k = mul-le-mul {n₂ = 64} {m₂ = 128} (omega arith) (omega arith)

pub overflow_mul-result-2 : goal.overflow_mul-result-2
overflow_mul-result-2 c = record { fits = omega (arith, small c.args.n c.args.i (omega arith) (omega arith)) }

pub overflow_add-result : goal.overflow_add-result
overflow_add-result c = record { fits = omega (arith, small c.args.n c.args.i (omega arith) (omega arith)) }

pub returns : goal.returns
unfolding row_place
returns c = omega (arith, row-code c.args.n c.args.i (omega arith))
