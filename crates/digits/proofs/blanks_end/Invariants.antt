-- The run is followed byte by byte, until a byte is no blank or the text ends.
use Prim.Native.Nat.{◌-◌}
use lib.ListN.{length}
use Rattle.digits.specs.Digits.{is_blank}
use Rattle.digits.proofs.Reading.{RunAt}
use Rattle.digits.proofs.blanks_end.Given as goal

abbrev pub invariant-loop-end : goal.invariant-loop-end
invariant-loop-end l = RunAt is_blank l.text l.at l.end
