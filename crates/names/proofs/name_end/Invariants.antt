-- The run is followed byte by byte, until a byte stands in no name or the text ends.
use Rattle.names.specs.Name.{is_name_byte}
use Rattle.digits.proofs.Reading.{RunAt}
use Rattle.names.proofs.name_end.Given as goal

abbrev pub invariant-loop-end : goal.invariant-loop-end
invariant-loop-end l = RunAt is_name_byte l.text l.at l.end
