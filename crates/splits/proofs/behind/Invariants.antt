-- `behind`: one strain a turn, the lowest that is left; each is behind j.
use Rattle.splits.specs.Sums.{entry_of_two}
use Rattle.splits.proofs.Adding.{Adding}
use Rattle.splits.proofs.behind.Given as goal

abbrev pub invariant-loop-left : goal.invariant-loop-left
invariant-loop-left l = Adding (λ i. entry_of_two l.distances i l.j) l.others l.left l.sum

abbrev pub decreases-loop-left : goal.decreases-loop-left
decreases-loop-left l = l.left
