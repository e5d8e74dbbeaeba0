-- Everything is small.
use mathlib.Core.Path.{refl}
use Prim.Native.Nat.{ℕ, ◌*◌, ◌-◌, ◌<◌, ◌≤◌}
use native.Mathlib.Nat.{mul-le-mul}
use native.Mathlib.Omega.{arith}
use Rattle.matrix.specs.Place.{place}
use Rattle.matrix.proofs.place.Goals as goal

small : (j : ℕ) → j < 64 → j * (j - 1) ≤ 64 * 64
small j h = mul-le-mul {n₂ = 64} {m₂ = 64} (omega arith) (omega arith)

pub overflow_mul-result : goal.overflow_mul-result
overflow_mul-result c = record { fits = omega (arith, small c.args.j (omega arith)) }

pub overflow_add-result : goal.overflow_add-result
overflow_add-result c = record { fits = omega (arith, small c.args.j (omega arith)) }

pub returns : goal.returns
unfolding place
returns c = refl
