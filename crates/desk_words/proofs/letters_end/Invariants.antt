-- The run is followed byte by byte, until a byte is a blank or the line ends.
use Rattle.desk_text.specs.Words.{is_letter}
use Rattle.digits.proofs.Reading.{RunAt}
use Rattle.desk_words.proofs.letters_end.Given as goal

abbrev pub invariant-loop-end : goal.invariant-loop-end
invariant-loop-end l = RunAt is_letter l.line l.at l.end
