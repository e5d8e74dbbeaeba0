-- No cell passed so far is other than what is due there.
use mathlib.Core.Path.{sym}
use native.Mathlib.Omega.{arith}
use borrow.Author.Count.{below_none, below_more}
use Rattle.verdict.proofs.Table.{some-yes, some-no}
use Rattle.phylip_grid.specs.Grid.{cell_off}
use Rattle.phylip_grid.proofs.Halves.{off, not_off}
use Rattle.phylip_grid.proofs.row_off.Goals as goal

pub loop-j-init : goal.loop-j-init
loop-j-init c = (omega arith, below_none _)

pub returns-then-grid-i : goal.returns-then-grid-i
returns-then-grid-i c = sym (some-yes _ (cell_off c.args.grid.now c.args.i) c.loop-j.j (omega arith) (off _ _ _ c.due.ensures c.if-grid-i.true))

pub loop-j-preserved : goal.loop-j-preserved
loop-j-preserved c = (omega arith, below_more _ _ c.loop-j.invariant.1 (not_off _ _ _ c.due.ensures c.if-grid-i.false))

pub returns : goal.returns
returns c = sym (some-no _ _ (λ k h. c.loop-j.invariant.1 k (omega arith)))
