-- Below 256 or not.
use borrow.Author.Tests.{lt-ltb, le-ltb}
use Rattle.newick_fill.proofs.byte_of.Goals as goal

pub returns-then-number-lt256 : goal.returns-then-number-lt256
returns-then-number-lt256 c = simp (lt-ltb _ _ c.if-number-lt256.true)

pub returns : goal.returns
returns c = simp (le-ltb _ _ c.if-number-lt256.false)
