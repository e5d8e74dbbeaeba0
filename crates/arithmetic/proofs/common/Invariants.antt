-- Euclid: each turn keeps what goes into both numbers, and the second number falls.
use Rattle.exact.proofs.Divisors.{Shared}
use Rattle.arithmetic.proofs.common.Given as goal

abbrev pub invariant-loop-y : goal.invariant-loop-y
invariant-loop-y l = Shared l.a l.b l.x l.y

abbrev pub decreases-loop-y : goal.decreases-loop-y
decreases-loop-y l = l.y
