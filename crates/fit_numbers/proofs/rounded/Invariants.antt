-- Below v the table is rounded, and from v on it is still zero.
use Prim.Native.Nat.{◌-◌}
use Rattle.fit_numbers.proofs.Written.{Written}
use Rattle.fit_numbers.proofs.rounded.Given as goal

abbrev pub invariant-loop-v : goal.invariant-loop-v
invariant-loop-v l = Written l.edges l.d l.numerators l.v l.lengths
