-- One reading of the root, and a semicolon behind it.
use mathlib.Core.Path.{sym, ◌∙◌}
use Rattle.newick_form.proofs.Forming.{text-bare, text-formless, text_unended, text-ends}
use Rattle.newick_form.proofs.is_text.Goals as goal

pub returns-then-byte_at-ne40 : goal.returns-then-byte_at-ne40
returns-then-byte_at-ne40 c = text-bare c.args.text.now (λ e. c.if-byte_at-ne40.true (c.byte_at.ensures ∙ e))

pub returns-in_default : goal.returns-in_default
returns-in_default c = text-formless c.args.text.now c.in_default.ensures

pub returns-then-byte_at-ne59 : goal.returns-then-byte_at-ne59
returns-then-byte_at-ne59 c = text_unended c.args.text.now c.in-Some.end c.in-Some.ensures (λ e. c.if-byte_at-ne59.true (c.byte_at-2.ensures ∙ e))

pub returns : goal.returns
returns c = text-ends c.args.text.now c.in-Some.end c.in-Some.ensures (sym c.byte_at.ensures ∙ c.if-byte_at-ne40.false) c.if-text-gt-MAX_TEXT.false (sym c.byte_at-2.ensures ∙ c.if-byte_at-ne59.false)
