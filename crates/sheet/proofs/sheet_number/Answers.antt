-- `sheet_number`: the number of the sheet's answer.
use mathlib.Core.Path.{◌∙◌, ap}
use Rattle.verdict.specs.Answer.{number}
use Rattle.sheet.proofs.sheet_number.Goals as goal

pub returns : goal.returns
returns c = c.number.ensures ∙ ap number c.sheet_judge.ensures
