-- A zero a turn; what is read, with the zeros that are left, is the whole number, both cut.
use mathlib.Core.Path.{◌≡◌}
use Prim.Native.Nat.{◌-◌, ◌≤◌}
use lib.ListN.{replicate}
use Rattle.digits.specs.Digits.{most, at_most, number_from}
use Rattle.cells.proofs.scaled.Given as goal

abbrev pub invariant-loop-k : goal.invariant-loop-k
invariant-loop-k l = (l.all ≤ most) × (at_most (number_from l.all (replicate (4 - l.k) 48)) ≡ at_most (number_from l.number (replicate (4 - l.places) 48)))
