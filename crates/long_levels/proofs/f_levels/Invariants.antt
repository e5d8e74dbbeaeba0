-- One level a turn.
use mathlib.Core.Path.{◌≡◌}
use Prim.Native.Nat.{◌*◌, ◌-◌}
use lib.IntN.{pos}
use lib.ListN.{get_or}
use Rattle.exact.specs.Table.{entry_of}
use Rattle.long_theory.specs.Long.{digit_of}
use Rattle.long_levels.specs.Levels.{level_f}
use Rattle.long_levels.proofs.Levelling.{Levelling}
use Rattle.long_levels.proofs.f_levels.Given as goal

abbrev pub invariant-loop-k : goal.invariant-loop-k
invariant-loop-k l = Levelling l.levels (λ i. level_f l.edges l.squares (entry_of l.splits) (pos (get_or l.d i 0)) (digit_of l.edges l.digits i)) l.k l.sums × (l.at ≡ l.k * l.edges)
