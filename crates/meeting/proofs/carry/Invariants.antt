-- `carry`: one strain a turn, the lowest that is left.
use Rattle.meeting.proofs.Carries.{Carry}
use Rattle.meeting.proofs.carry.Given as goal

abbrev pub invariant-loop-left : goal.invariant-loop-left
invariant-loop-left l = Carry l.here l.x l.initial.ways l.left l.ways

abbrev pub decreases-loop-left : goal.decreases-loop-left
decreases-loop-left l = l.left
