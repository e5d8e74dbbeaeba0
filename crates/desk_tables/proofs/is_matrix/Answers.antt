-- By how many strains there are.
use borrow.Author.Tests.{le-leb, lt-leb}
use Rattle.matrix.specs.Place.{pair_count}
use Rattle.exact.proofs.Decide.{eqb-sym}
use Rattle.desk_tables.proofs.is_matrix.Goals as goal

pub returns-then-n-gt-MAX_STRAINS : goal.returns-then-n-gt-MAX_STRAINS
returns-then-n-gt-MAX_STRAINS c = simp (lt-leb _ _ c.if-n-gt-MAX_STRAINS.true)

pub returns : goal.returns
returns c = simp (le-leb _ _ c.if-n-gt-MAX_STRAINS.false, c.pair_count.ensures) (let a = c.args in eqb-sym (pair_count a.n) a.count)
