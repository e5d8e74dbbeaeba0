-- By where the digits end, and what stands there.
use mathlib.Core.Path.{sym, ◌∙◌}
use Rattle.desk_words.proofs.Reading.{no-digits, word-goes-on, all_digits}
use Rattle.desk_words.proofs.digits_at.Goals as goal

pub returns-then-end-at : goal.returns-then-end-at
returns-then-end-at c = let d = c.digits_end-end.ensures in no-digits _ _ _ c.requires d.0 d.1 c.if-end-at.true

pub returns-then-not-word_over : goal.returns-then-not-word_over
returns-then-not-word_over c = let d = c.digits_end-end.ensures in word-goes-on _ _ _ c.requires d.0 d.1 c.if-end-at.false (sym c.word_over.ensures ∙ c.if-not-word_over.true)

pub returns : goal.returns
returns c = let d = c.digits_end-end.ensures in all_digits _ _ _ c.requires d.0 d.1 c.if-end-at.false (sym c.word_over.ensures ∙ c.if-not-word_over.false) _ c.number.ensures.0
