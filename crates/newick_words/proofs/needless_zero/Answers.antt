-- More digits than one, and the first of them.
use mathlib.Core.Path.{ap}
use Prim.Native.Nat.{ℕ}
use borrow.Author.Tests.{le-ltb, lt-ltb}
use lib.Dec.{eqb}
use Rattle.newick_words.proofs.needless_zero.Goals as goal

pub returns-then-point-whole-le1 : goal.returns-then-point-whole-le1
returns-then-point-whole-le1 c = simp (le-ltb _ _ c.if-point-whole-le1.true)

pub returns : goal.returns
returns c = simp (lt-ltb _ _ c.if-point-whole-le1.false) (ap (λ (x : ℕ). eqb x 48) c.byte_at.ensures)
