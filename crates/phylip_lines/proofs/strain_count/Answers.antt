-- Blanks, then digits; where there is no digit there is no count.
use Rattle.phylip_lines.proofs.Ending.{no_count, count-read}
use Rattle.phylip_lines.proofs.strain_count.Goals as goal

pub returns-then-start-end : goal.returns-then-start-end
returns-then-start-end c = no_count c.args.text.now c.blanks_end-start.result c.digits_end-end.result c.blanks_end-start.ensures.0 c.digits_end-end.ensures.0 c.digits_end-end.ensures.1 c.if-start-end.true

pub returns : goal.returns
returns c = count-read c.args.text.now c.blanks_end-start.result c.digits_end-end.result c.blanks_end-start.ensures.0 c.digits_end-end.ensures.0 c.digits_end-end.ensures.1 c.number.result c.if-start-end.false c.number.ensures.0
