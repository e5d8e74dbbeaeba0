-- What is read, with the digits that are left behind it, is the whole number, both cut.
use mathlib.Core.Path.{◌≡◌}
use Prim.Native.Nat.{◌-◌, ◌≤◌}
use lib.Seq.{slice}
use Rattle.digits.specs.Digits.{most, at_most, number_from}
use Rattle.digits.proofs.number.Given as goal

abbrev pub invariant-loop-k : goal.invariant-loop-k
invariant-loop-k l = (l.k ≤ l.to) × (l.all ≤ most) × (at_most (number_from l.all (slice l.k l.to l.text)) ≡ at_most (number_from l.number (slice l.from l.to l.text)))
