-- One level a turn.
use mathlib.Core.Path.{◌≡◌}
use Prim.Native.Nat.{◌*◌, ◌-◌}
use Rattle.exact.specs.Sum.{sum}
use Rattle.long_theory.specs.Long.{digit_of}
use Rattle.long_levels.proofs.Levelling.{Levelling}
use Rattle.long_levels.proofs.total_levels.Given as goal

abbrev pub invariant-loop-k : goal.invariant-loop-k
invariant-loop-k l = Levelling l.levels (λ i. sum l.edges (digit_of l.edges l.digits i)) l.k l.sums × (l.at ≡ l.k * l.edges)
