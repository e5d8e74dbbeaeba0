-- One level a turn.
use Prim.Native.Nat.{◌-◌}
use lib.IntN.{pos, ◌*ℤ◌}
use lib.ListN.{get_or}
use Rattle.long_levels.proofs.Levelling.{Levelling}
use Rattle.long_levels.proofs.times_levels.Given as goal

abbrev pub invariant-loop-k : goal.invariant-loop-k
invariant-loop-k l = Levelling l.levels (λ i. pos (get_or l.d i 0) *ℤ pos l.count) l.k l.products
