-- The code's test is the definition's.
use Rattle.std.proofs.Common.{◌+◌, ◌*◌, ◌/◌, ◌%◌, div-le_self, add-one, arith, le-ltb, lt-ltb}
use native.Mathlib.Nat.{mod-le}
use Rattle.arithmetic.proofs.nearest_even.Goals as goal

pub overflow_mul-rest : goal.overflow_mul-rest
overflow_mul-rest c = record { fits = omega (arith, mod-le c.args.a c.args.d) }

pub overflow_add-rest : goal.overflow_add-rest
overflow_add-rest c = record { fits = omega (arith, mod-le c.args.a c.args.d) }

pub overflow_add-result : goal.overflow_add-result
overflow_add-result c = record { fits = omega (arith, div-le_self c.args.a c.args.d) }

pub returns-then-rest-quotient : goal.returns-then-rest-quotient
returns-then-rest-quotient c = let a = c.args.a in
    let d = c.args.d in
    simp (lt-ltb d (2 * (a % d) + a / d % 2) (omega arith), add-one)

pub returns-else-rest-quotient : goal.returns-else-rest-quotient
returns-else-rest-quotient c = let a = c.args.a in
    let d = c.args.d in
    simp (le-ltb d (2 * (a % d) + a / d % 2) (omega arith))
