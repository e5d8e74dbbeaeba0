-- The product of two numbers below 2^32 is below 2^64.
use Prim.Native.Nat.{ℕ, ◌*◌, ◌-◌, ◌<◌, ◌≤◌, ◌^◌}
use mathlib.Core.Path.{◌≡◌}
use native.Mathlib.Nat.{mul-le-mul}
use native.Mathlib.Omega.{arith}
use Rattle.matrix.proofs.pair_count.Goals as goal

product : (n : ℕ) → n < 2 ^ 32 → n * (n - 1) ≤ 4294967295 * 4294967295
product n h = mul-le-mul {n₂ = 4294967295} {m₂ = 4294967295} (omega arith) (omega arith)

pub returns-then-n-eq0 : goal.returns-then-n-eq0
returns-then-n-eq0 c = let e : c.args.n ≡ 0 = omega arith in rw e

pub overflow_mul-result : goal.overflow_mul-result
overflow_mul-result c = record { fits = omega (arith, product c.args.n (omega arith)) }
