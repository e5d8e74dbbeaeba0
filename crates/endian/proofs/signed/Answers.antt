-- From 2^63 on the number is negative: -(k + 1), where k is what is missing to 2^64 - 1.
use Prim.Native.Nat.{◌-◌}
use native.Mathlib.Omega.{arith}
use borrow.Author.Tests.{lt-ltb, le-ltb}
use Rattle.exact.proofs.Sign.{back-pos}
use Rattle.endian.proofs.Numbers.{minus_one, fits_neg, back_neg}
use Rattle.endian.proofs.signed.Goals as goal

pub overflow_sub-result-else-x-lt9223372036854775808 : goal.overflow_sub-result-else-x-lt9223372036854775808
overflow_sub-result-else-x-lt9223372036854775808 c = let k = 18446744073709551615 - c.args.x in
    simp (back-pos k (omega arith), minus_one k) (fits_neg k (omega arith))

pub returns-then-x-lt9223372036854775808 : goal.returns-then-x-lt9223372036854775808
returns-then-x-lt9223372036854775808 c = simp (lt-ltb _ _ c.if-x-lt9223372036854775808.true)

pub returns-else-x-lt9223372036854775808 : goal.returns-else-x-lt9223372036854775808
returns-else-x-lt9223372036854775808 c = let k = 18446744073709551615 - c.args.x in
    simp (back-pos k (omega arith), minus_one k, back_neg k (omega arith), le-ltb _ _ c.if-x-lt9223372036854775808.false)
