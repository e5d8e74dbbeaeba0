-- One level a turn.
use Prim.Native.Nat.{◌-◌}
use lib.IntN.{pos, ◌-ℤ◌}
use Rattle.exact.specs.Table.{entry_of}
use Rattle.long_levels.proofs.Levelling.{Levelling}
use Rattle.long_levels.proofs.negated.Given as goal

abbrev pub invariant-loop-k : goal.invariant-loop-k
invariant-loop-k l = Levelling l.levels (λ i. pos 0 -ℤ entry_of l.f i) l.k l.others
