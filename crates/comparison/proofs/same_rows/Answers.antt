-- Every row passed so far is the same in both sheets.
use mathlib.Core.Path.{sym, ◌∙◌}
use native.Mathlib.Omega.{arith}
use borrow.Author.Count.{below_none, below_more}
use Rattle.comparison.proofs.Matrices.{rows_agree, row_differs}
use Rattle.comparison.proofs.same_rows.Goals as goal

pub loop-k-init : goal.loop-k-init
loop-k-init c = (omega arith, below_none _)

pub returns-then-u16_at : goal.returns-then-u16_at
returns-then-u16_at c = row_differs _ _ _ c.loop-k.k (omega arith) (λ e. c.if-u16_at.true (c.u16_at.ensures ∙ e ∙ sym c.u16_at-in-loop-k.ensures))

pub loop-k-preserved : goal.loop-k-preserved
loop-k-preserved c = (
  omega arith,
  below_more _ _ c.loop-k.invariant.1 (sym c.u16_at.ensures ∙ c.if-u16_at.false ∙ c.u16_at-in-loop-k.ensures),
)

pub returns : goal.returns
returns c = rows_agree _ _ _ (λ i h. c.loop-k.invariant.1 i (omega arith))
