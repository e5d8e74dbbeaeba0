-- The tests of the bits are the tests of the numbers.
use mir.Facts.{to_z-of_z}
use Rattle.fit_theory.proofs.Zeros.{bits-zero, bits-pass, bits_fail}
use Rattle.balancing.proofs.at_fault.Goals as goal

pub returns-in-All : goal.returns-in-All
returns-in-All c = let a = c.args in
    rw c.in-All.is (bits-zero a.sum c.ranges.sum)

pub returns-then-numerator-gt0 : goal.returns-then-numerator-gt0
returns-then-numerator-gt0 c = rw c.in-Positive.is (simp (rw (to_z-of_z c.ranges.numerator) at c.if-numerator-gt0.true) (bits-zero c.args.sum c.ranges.sum))

pub returns-else-numerator-gt0 : goal.returns-else-numerator-gt0
returns-else-numerator-gt0 c = rw c.in-Positive.is (simp (rw (to_z-of_z c.ranges.numerator) at c.if-numerator-gt0.false))

pub returns-then-numerator-eq0 : goal.returns-then-numerator-eq0
returns-then-numerator-eq0 c = rw c.in-Zero.is (simp (to_z-of_z c.ranges.sum, bits-pass c.args.numerator c.ranges.numerator c.if-numerator-eq0.true))

pub returns-else-numerator-eq0 : goal.returns-else-numerator-eq0
returns-else-numerator-eq0 c = rw c.in-Zero.is (simp (bits_fail c.args.numerator c.if-numerator-eq0.false))
