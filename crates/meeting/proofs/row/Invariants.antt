-- `row`: one strain a turn, the lowest that is left.
use Rattle.meeting.proofs.Rows.{Rowing}
use Rattle.meeting.proofs.row.Given as goal

abbrev pub invariant-loop-left : goal.invariant-loop-left
invariant-loop-left l = Rowing l.n l.d l.distances l.ways l.there l.j l.initial.own l.left l.whole l.own

abbrev pub decreases-loop-left : goal.decreases-loop-left
decreases-loop-left l = l.left
