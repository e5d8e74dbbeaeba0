-- One strain a turn; what is behind them stays 0.
use mathlib.Core.Path.{◌≡◌}
use Prim.Native.Nat.{◌≤◌, ◌-◌}
use lib.IntN.{pos}
use lib.ListN.{length}
use Rattle.exact.proofs.Fill.{Filled}
use Rattle.tree_theory.specs.Limits.{max_vertices}
use Rattle.path_sums.proofs.strains_alone.Given as goal

abbrev pub invariant-loop-i : goal.invariant-loop-i
invariant-loop-i l = (l.i ≤ l.n) × (length l.sizes ≡ max_vertices) × Filled (pos 0) (λ _. pos 1) (λ _. pos 0) l.i l.sizes
