-- Each rule has its word.
use Rattle.long_lines.proofs.Lines.{by_rule}
use Rattle.long_lines.proofs.rule_word.Goals as goal

pub returns-in-Plain : goal.returns-in-Plain
returns-in-Plain c = by_rule _ _ c.in-Plain.is c.put_word.ensures

pub returns-in-Drawable : goal.returns-in-Drawable
returns-in-Drawable c = by_rule _ _ c.in-Drawable.is c.put_word-in-Drawable.ensures
