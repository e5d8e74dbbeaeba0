-- The array is filled from the front; its front is what is asked for.
use mathlib.Core.Path.{◌≡◌}
use Prim.Native.Nat.{◌-◌, ◌≤◌}
use lib.ListN.{length, get_or}
use Rattle.exact.proofs.Fill.{Filled}
use Rattle.matrix.specs.Limits.{max_pairs}
use Rattle.correction_theory.specs.Kept.{one}
use Rattle.keeping.proofs.ones_of.Given as goal

abbrev pub invariant-loop-k : goal.invariant-loop-k
invariant-loop-k l = (l.k ≤ length l.distances) × (length l.held ≡ max_pairs) × Filled 0 (λ i. one (get_or l.distances i 0)) (λ i. get_or l.initial.held i 0) l.k l.held
