-- `rows_between`: one strain's row a turn, the lowest strain that is left.
use Rattle.meeting.specs.Meeting.{over}
use Rattle.splits.specs.Sums.{entry_of_two}
use Rattle.splits.proofs.Adding.{Adding}
use Rattle.splits.proofs.rows_between.Given as goal

abbrev pub invariant-loop-left : goal.invariant-loop-left
invariant-loop-left l = Adding (λ j. over l.others (λ i. entry_of_two l.distances i j)) l.each l.left l.sum

abbrev pub decreases-loop-left : goal.decreases-loop-left
decreases-loop-left l = l.left
