-- -1, or the decimal.
use mathlib.Core.Path.{sym, ◌∙◌}
use Rattle.cells.proofs.Units.{size-missing, size-decimal}
use Rattle.cells.proofs.cell_size.Goals as goal

pub returns-then-is_missing : goal.returns-then-is_missing
returns-then-is_missing c = size-missing c.args.text.now c.args.at (sym c.is_missing.ensures ∙ c.if-is_missing.true)

pub returns : goal.returns
returns c = size-decimal c.args.text.now c.args.at c.decimal_size.result (sym c.is_missing.ensures ∙ c.if-is_missing.false) c.decimal_size.ensures
