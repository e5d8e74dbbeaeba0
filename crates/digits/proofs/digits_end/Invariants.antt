-- The run is followed byte by byte, until a byte is no digit or the text ends.
use Prim.Native.Nat.{◌-◌}
use lib.ListN.{length}
use Rattle.digits.specs.Digits.{is_digit}
use Rattle.digits.proofs.Reading.{RunAt}
use Rattle.digits.proofs.digits_end.Given as goal

abbrev pub invariant-loop-end : goal.invariant-loop-end
invariant-loop-end l = RunAt is_digit l.text l.at l.end
