-- The tests of the bits are the tests of the number.
use mathlib.Core.Path.{◌∙◌, ap}
use lib.Dec.{ltb}
use lib.IntN.{nat_abs}
use mir.Facts.{to_z-of_z}
use Rattle.lengths.specs.Limits.{max_numerator}
use Rattle.lengths.proofs.at_fault.Goals as goal

pub returns-in-InRange : goal.returns-in-InRange
returns-in-InRange c = rw c.in-InRange.is (ap (ltb max_numerator) (c.magnitude.ensures ∙ ap nat_abs (to_z-of_z c.ranges.numerator)))

pub returns-in-NotNegative : goal.returns-in-NotNegative
returns-in-NotNegative c = rw c.in-NotNegative.is (simp (to_z-of_z c.ranges.numerator))
