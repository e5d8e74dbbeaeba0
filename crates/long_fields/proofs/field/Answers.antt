-- A space, a minus where there is one, and the decimals.
use native.Mathlib.Omega.{arith}
use Rattle.long_fields.proofs.Numbers.{with_minus, without}
use Rattle.long_fields.proofs.field.Goals as goal

pub returns-then-negative : goal.returns-then-negative
returns-then-negative c = with_minus c.args.negative _ (omega (arith, c.requires.levels_le_wide_size.2)) c.if-negative.true c.put-number.ensures c.put-behind.ensures c.put_digits.ensures

pub returns : goal.returns
returns c = without c.args.negative _ (omega (arith, c.requires.levels_le_wide_size.2)) c.if-negative.false c.put-number.ensures c.put_digits-2.ensures
