-- Both cases of the count.
use borrow.Author.Tests.{lt-ltb, le-ltb}
use Rattle.records.proofs.limit.Goals as goal

pub returns-then-count-gt3 : goal.returns-then-count-gt3
returns-then-count-gt3 c = simp (lt-ltb _ _ c.if-count-gt3.true)

pub returns : goal.returns
returns c = simp (le-ltb _ _ c.if-count-gt3.false)
