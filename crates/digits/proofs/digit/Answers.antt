-- Only of a digit is 48 taken off.
use mathlib.Core.Path.{sym, ◌∙◌}
use Rattle.digits.proofs.Reading.{digit_low, is-digit-of, no-digit-of}
use Rattle.digits.proofs.digit.Goals as goal

pub overflow_sub-result : goal.overflow_sub-result
overflow_sub-result c = digit_low c.args.byte (sym c.is_digit.ensures ∙ c.if-is_digit.true)

pub returns-then-is_digit : goal.returns-then-is_digit
returns-then-is_digit c = is-digit-of c.args.byte (sym c.is_digit.ensures ∙ c.if-is_digit.true)

pub returns : goal.returns
returns c = no-digit-of c.args.byte (sym c.is_digit.ensures ∙ c.if-is_digit.false)
