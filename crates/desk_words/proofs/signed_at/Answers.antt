-- With a minus at its front, or without.
use mathlib.Core.Path.{sym, ◌∙◌}
use native.Mathlib.Omega.{arith}
use Rattle.digits.proofs.Reading.{inside}
use Rattle.desk_words.proofs.Reading.{minus-from, plain-from}
use Rattle.desk_words.proofs.signed_at.Goals as goal

pub digits_at-requires : goal.digits_at-requires
digits_at-requires c = let h = inside c.args.line.now c.blanks_end-start.result 44 (sym c.byte_at.ensures ∙ c.if-byte_at-eq45.true) in omega (arith, h)

pub returns-then-byte_at-eq45 : goal.returns-then-byte_at-eq45
returns-then-byte_at-eq45 c = minus-from _ _ _ _ c.blanks_end-start.ensures.0 c.blanks_end-start.ensures.1 _ _ (sym c.byte_at.ensures ∙ c.if-byte_at-eq45.true) c.digits_at.ensures c.signed.ensures c.ok_or.ensures.value

pub returns : goal.returns
returns c = plain-from _ _ _ _ c.blanks_end-start.ensures.0 c.blanks_end-start.ensures.1 _ _ (λ e. c.if-byte_at-eq45.false (c.byte_at.ensures ∙ e)) c.digits_at-2.ensures c.signed-2.ensures c.ok_or-2.ensures.value
