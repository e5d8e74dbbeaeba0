-- Those before a byte, and those from it on; the first one too many tells.
use Rattle.newick_form.proofs.Tallying.{Tallied}
use Rattle.newick_form.proofs.count_is.Given as goal

abbrev pub invariant-loop-next : goal.invariant-loop-next
invariant-loop-next l = Tallied l.text l.byte l.count l.left l.next-index
