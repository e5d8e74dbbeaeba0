-- Those before i are not 0.
use mathlib.Core.Path.{sym}
use native.Mathlib.Omega.{arith}
use borrow.Author.Tests.{eq-eqb}
use lib.Dec.{eqb}
use lib.ListN.{get_or}
use Rattle.verdict.proofs.Table.{some-yes, some-no}
use Rattle.newick_survey.proofs.unused.Goals as goal

pub returns-then-parents-i-eq0 : goal.returns-then-parents-i-eq0
returns-then-parents-i-eq0 c = sym (some-yes c.args.n (λ i. eqb (get_or c.args.parents.now i 0) 0) c.loop-i.i c.loop-i-test.true (eq-eqb _ _ c.if-parents-i-eq0.true))

pub returns : goal.returns
returns c = sym (some-no c.args.n (λ i. eqb (get_or c.args.parents.now i 0) 0) (λ i h. c.loop-i.invariant.1 i (omega (arith, h, c.loop-i-test.false))))
