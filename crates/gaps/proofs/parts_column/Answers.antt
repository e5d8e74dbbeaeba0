-- `parts_column`: the code and the definition turn on the same digit.
use borrow.Author.Tests.{eq-eqb, ne_eqb}
use Rattle.gaps.proofs.parts_column.Goals as goal

pub returns-then-cluster-j-eq1 : goal.returns-then-cluster-j-eq1
returns-then-cluster-j-eq1 c = rw (eq-eqb _ 1 c.if-cluster-j-eq1.true)

pub returns : goal.returns
returns c = rw (ne_eqb _ 1 c.if-cluster-j-eq1.false)
