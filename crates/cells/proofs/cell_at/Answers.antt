-- -1, or the decimal.
use mathlib.Core.Path.{sym, ◌∙◌}
use lib.ListN.{drop}
use Rattle.cells.proofs.Units.{cell_missing, cell_decimal}
use Rattle.cells.proofs.cell_at.Goals as goal

pub returns-then-is_missing : goal.returns-then-is_missing
returns-then-is_missing c = cell_missing (drop c.args.at c.args.text.now) (sym c.is_missing.ensures ∙ c.if-is_missing.true)

pub returns : goal.returns
returns c = cell_decimal (drop c.args.at c.args.text.now) c.decimal.result (sym c.is_missing.ensures ∙ c.if-is_missing.false) c.decimal.ensures
