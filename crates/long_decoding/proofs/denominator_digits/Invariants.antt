-- The array is filled from the front; past the digits it keeps its zeros.
use Prim.Native.Nat.{◌-◌}
use Rattle.records.proofs.Decoding.{Decoding}
use Rattle.long_theory.specs.Long.{max_levels}
use Rattle.long_decoding.specs.Digits.{natural_at}
use Rattle.long_decoding.proofs.denominator_digits.Given as goal

abbrev pub invariant-loop-k : goal.invariant-loop-k
invariant-loop-k l = Decoding 0 max_levels l.levels (natural_at l.s l.at) l.k l.held
