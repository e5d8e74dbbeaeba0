-- Below v the table is rounded, and from v on it is still zero.
use Prim.Native.Nat.{◌-◌}
use lib.ListN.{length}
use Rattle.exact.specs.Nearest.{nearest}
use Rattle.long_theory.specs.Long.{long_denominator, long_numerator}
use Rattle.long_reporting.proofs.Reporting.{Rounding}
use Rattle.long_reporting.proofs.long_rounded.Given as goal

abbrev pub invariant-loop-v : goal.invariant-loop-v
invariant-loop-v l = Rounding l.edges (λ u. nearest (long_denominator (length l.d) l.d) (long_numerator (length l.d) l.edges l.digits u)) l.v l.lengths
