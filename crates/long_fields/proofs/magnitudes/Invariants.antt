-- One digit a turn.
use Prim.Native.Nat.{◌-◌}
use Rattle.long_fields.proofs.Numbers.{Taking}
use Rattle.long_fields.proofs.magnitudes.Given as goal

abbrev pub invariant-loop-k : goal.invariant-loop-k
invariant-loop-k l = Taking l.levels l.edges l.digits l.v l.k l.held
