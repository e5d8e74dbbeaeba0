-- No row passed so far has a cell that is other than what is due there.
use mathlib.Core.Path.{sym, ◌∙◌}
use native.Mathlib.Omega.{arith}
use borrow.Author.Count.{below_none, below_more}
use Rattle.phylip_grid.proofs.Halves.{halves-yes, halves-no}
use Rattle.phylip_grid.proofs.halves_off.Goals as goal

pub loop-i-init : goal.loop-i-init
loop-i-init c = (omega arith, below_none _)

pub returns-then-row_off : goal.returns-then-row_off
returns-then-row_off c = halves-yes c.args.grid.now _ c.loop-i.i (omega arith) (sym c.row_off.ensures ∙ c.if-row_off.true)

pub loop-i-preserved : goal.loop-i-preserved
loop-i-preserved c = (omega arith, below_more _ _ c.loop-i.invariant.1 (sym c.row_off.ensures ∙ c.if-row_off.false))

pub returns : goal.returns
returns c = halves-no c.args.grid.now _ (λ k h. c.loop-i.invariant.1 k (omega arith))
