-- Every digit so far is 0.
use Prim.Native.Nat.{◌-◌}
use native.Mathlib.Omega.{arith}
use borrow.Author.Count.{below_none, below_more}
use Rattle.long_writing.proofs.first_digit.Goals as goal

pub loop-k-init : goal.loop-k-init
loop-k-init c = (omega arith, below_none _)

pub returns-then-digits-k-ne0 : goal.returns-then-digits-k-ne0
returns-then-digits-k-ne0 c = let l = c.loop-k in record { here = l.invariant.0; zeros = l.invariant.1; some = λ _. c.if-digits-k-ne0.true }

pub loop-k-preserved : goal.loop-k-preserved
loop-k-preserved c = let l = c.loop-k in (omega (arith, c.loop-k-test.true), below_more _ _ l.invariant.1 c.if-digits-k-ne0.false)

pub returns : goal.returns
returns c = record { here = omega arith; zeros = λ i h. c.loop-k.invariant.1 i (omega (arith, h)); some = λ h. absurd (omega (arith, h)) }
