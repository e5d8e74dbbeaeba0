-- The number of the sheet's answer.
use mathlib.Core.Path.{◌∙◌, ap}
use Rattle.verdict.specs.Answer.{number}
use Rattle.long_sheet.proofs.long_number.Goals as goal

pub returns : goal.returns
returns c = c.number.ensures ∙ ap number c.long_judge.ensures
