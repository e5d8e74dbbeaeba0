use Prim.Native.Nat.{◌-◌}
use lib.IntN.{pos}
use Rattle.long_theory.specs.Long.{long_denominator, long_numerator}
use Rattle.long_rounding.proofs.Searching.{Searching}
use Rattle.long_rounding.proofs.greatest.Given as goal

abbrev pub invariant-loop-low : goal.invariant-loop-low
invariant-loop-low l = Searching (pos (long_denominator l.levels l.d)) (long_numerator l.levels l.edges l.digits l.v) l.low l.high

abbrev pub decreases-loop-low : goal.decreases-loop-low
decreases-loop-low l = l.high - l.low
