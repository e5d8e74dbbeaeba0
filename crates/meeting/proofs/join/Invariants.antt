-- `join`: one strain's row a turn, the lowest strain that is left.
use Rattle.meeting.proofs.Meetings.{Joining}
use Rattle.meeting.proofs.join.Given as goal

abbrev pub invariant-loop-left : goal.invariant-loop-left
invariant-loop-left l = Joining l.n l.d l.distances l.ways l.here l.there l.m l.initial.own l.left l.own

abbrev pub decreases-loop-left : goal.decreases-loop-left
decreases-loop-left l = l.left
