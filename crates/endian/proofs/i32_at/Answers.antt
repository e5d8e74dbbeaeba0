-- From 2^31 on the number is negative: -(k + 1), where k is what is missing to 2^32 - 1.
use mathlib.Core.Path.{sym}
use Prim.Native.Nat.{◌-◌}
use native.Mathlib.Omega.{arith}
use borrow.Author.Tests.{lt-ltb, le-ltb}
use Rattle.exact.proofs.Sign.{back-pos}
use Rattle.endian.proofs.Numbers.{minus_one, fits_neg, back_neg}
use Rattle.endian.proofs.i32_at.Goals as goal

pub overflow_sub-result-else-x-lt2147483648 : goal.overflow_sub-result-else-x-lt2147483648
overflow_sub-result-else-x-lt2147483648 c = let k = 4294967295 - c.u32_at-x.result in
    simp (back-pos k (omega arith), minus_one k) (fits_neg k (omega arith))

pub returns-then-x-lt2147483648 : goal.returns-then-x-lt2147483648
returns-then-x-lt2147483648 c = simp (sym c.u32_at-x.ensures, lt-ltb _ _ c.if-x-lt2147483648.true) (back-pos c.u32_at-x.result (omega arith))

pub returns-else-x-lt2147483648 : goal.returns-else-x-lt2147483648
returns-else-x-lt2147483648 c = let k = 4294967295 - c.u32_at-x.result in
    simp (sym c.u32_at-x.ensures, back-pos k (omega arith), minus_one k, back_neg k (omega arith), le-ltb _ _ c.if-x-lt2147483648.false)
