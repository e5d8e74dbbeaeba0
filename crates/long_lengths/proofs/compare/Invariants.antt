-- One digit a turn.
use Rattle.long_lengths.proofs.Terms.{Compared}
use Rattle.long_lengths.proofs.compare.Given as goal

abbrev pub invariant-loop-k : goal.invariant-loop-k
invariant-loop-k l = Compared l.edges l.levels l.d l.digits l.v l.b l.k l.whole
