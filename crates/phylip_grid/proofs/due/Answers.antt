-- On the diagonal, and beside it.
use borrow.Author.Tests.{eq-eqb, ne_eqb}
use Rattle.phylip_grid.proofs.due.Goals as goal

pub returns-then-i-j : goal.returns-then-i-j
returns-then-i-j c = simp (eq-eqb _ _ c.if-i-j.true)

pub returns : goal.returns
returns c = simp (ne_eqb _ _ c.if-i-j.false)
