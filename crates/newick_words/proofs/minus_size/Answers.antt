-- The byte at the place tells.
use mathlib.Core.Path.{sym, ◌∙◌}
use Rattle.newick_words.proofs.Words.{minus-yes, minus-no}
use Rattle.newick_words.proofs.minus_size.Goals as goal

pub returns-then-byte_at-eq45 : goal.returns-then-byte_at-eq45
returns-then-byte_at-eq45 c = minus-yes c.args.text.now c.args.at (sym c.byte_at.ensures ∙ c.if-byte_at-eq45.true)

pub returns : goal.returns
returns c = minus-no c.args.text.now c.args.at (λ e. c.if-byte_at-eq45.false (c.byte_at.ensures ∙ e)) c.requires
