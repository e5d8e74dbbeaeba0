-- Every digit so far is 0.
use mathlib.Core.Path.{sym}
use native.Mathlib.Omega.{arith}
use borrow.Author.Count.{below_none, below_more}
use lib.ListN.{length, get_or}
use Rattle.exact.proofs.Decide.{eq_yes, eq_no}
use Rattle.long_digits.proofs.Values.{natural-none, none-natural}
use Rattle.long_theory.specs.Long.{long_denominator}
use Rattle.long_lengths.proofs.is_zero.Goals as goal

pub loop-digit-init : goal.loop-digit-init
loop-digit-init c = (omega arith, below_none _)

pub returns-then-digit-ne0 : goal.returns-then-digit-ne0
returns-then-digit-ne0 c = sym (eq_no {a = long_denominator (length c.args.d.now) c.args.d.now} {b = 0} (λ e. c.if-digit-ne0.true (none-natural (length c.args.d.now) (λ k. get_or c.args.d.now k 0) e c.loop-digit.digit-index (omega (arith, c.loop-digit-test.true)))))

pub loop-digit-preserved : goal.loop-digit-preserved
loop-digit-preserved c = (omega arith, below_more _ _ c.loop-digit.invariant.1 c.if-digit-ne0.false)

pub returns : goal.returns
returns c = sym (eq_yes (natural-none (length c.args.d.now) (λ k. get_or c.args.d.now k 0) (λ i h. c.loop-digit.invariant.1 i (omega (arith, h, c.loop-digit-test.false)))))
