-- The name, the cells and the end, each where the one before ends. What is not of the form is found first and ends the row.
use mathlib.Core.Path.{sym, ◌∙◌}
use native.Mathlib.Omega.{arith}
use Rattle.phylip_rows.proofs.Naming.{name-within}
use Rattle.phylip_rows.proofs.Passing.{row_unnamed, row-no-cells, row-no-end, row_read}
use Rattle.phylip_rows.proofs.row.Goals as goal

pub returns-then-name : goal.returns-then-name
returns-then-name c = row_unnamed _ _ _ _ _ _ c.name.ensures c.if-name.true

pub cells-requires : goal.cells-requires
cells-requires c = let w = name-within _ _ (sym c.name.ensures.bad-is ∙ c.if-name.false) in (w, omega arith, omega arith)

pub returns-in_err-read : goal.returns-in_err-read
returns-in_err-read c = rw c.from_residual.ensures (row-no-cells _ _ _ _ _ _ c.name.ensures c.in_err-read.ensures)

pub returns-in-Err : goal.returns-in-Err
returns-in-Err c = row-no-end _ _ _ _ _ _ c.name.ensures c.in_ok-read.ensures c.in-Err.ensures

pub returns-in-Ok : goal.returns-in-Ok
returns-in-Ok c = row_read _ _ _ _ _ _ c.name.ensures c.in_ok-read.ensures c.in-Ok.ensures c.if-name.false
