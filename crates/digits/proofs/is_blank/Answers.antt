-- The two blanks, one by one.
use borrow.Author.Tests.{eq-eqb, ne_eqb}
use Rattle.digits.proofs.is_blank.Goals as goal

pub returns-then-byte-eq32 : goal.returns-then-byte-eq32
returns-then-byte-eq32 c = simp (eq-eqb _ _ c.if-byte-eq32.true)

pub returns : goal.returns
returns c = simp (ne_eqb _ _ c.if-byte-eq32.false)
