-- The run is followed byte by byte, until a byte is LF or the buffer ends.
use Rattle.digits.proofs.Reading.{RunAt}
use Rattle.desk_feed.specs.Feed.{in_line}
use Rattle.desk_feed.proofs.feed_end.Given as goal

abbrev pub invariant-loop-end : goal.invariant-loop-end
invariant-loop-end l = RunAt in_line l.text l.at l.end
