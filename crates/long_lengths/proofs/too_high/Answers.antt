-- No digit so far is too high.
use mathlib.Core.Path.{sym}
use native.Mathlib.Omega.{arith}
use borrow.Author.Count.{below_none, below_more}
use borrow.Author.Tests.{lt-ltb, le-ltb}
use lib.Dec.{ltb}
use lib.ListN.{length, get_or}
use Rattle.verdict.proofs.Table.{some-yes, some-no}
use Rattle.long_lengths.proofs.too_high.Goals as goal

pub loop-digit-init : goal.loop-digit-init
loop-digit-init c = (omega arith, below_none _)

pub returns-then-digit-gt-HIGHEST : goal.returns-then-digit-gt-HIGHEST
returns-then-digit-gt-HIGHEST c = sym (some-yes (length c.args.d.now) (λ k. ltb 999999 (get_or c.args.d.now k 0)) c.loop-digit.digit-index (omega (arith, c.loop-digit-test.true)) (lt-ltb _ _ c.if-digit-gt-HIGHEST.true))

pub loop-digit-preserved : goal.loop-digit-preserved
loop-digit-preserved c = (omega arith, below_more _ _ c.loop-digit.invariant.1 (le-ltb _ _ c.if-digit-gt-HIGHEST.false))

pub returns : goal.returns
returns c = sym (some-no (length c.args.d.now) (λ k. ltb 999999 (get_or c.args.d.now k 0)) (λ i h. c.loop-digit.invariant.1 i (omega (arith, h, c.loop-digit-test.false))))
