-- `column`: the bits met so far, and the next is the highest.
use mathlib.Core.Path.{◌≡◌}
use Prim.Native.Nat.{◌≤◌, ◌-◌}
use Rattle.matrix.specs.Place.{measured}
use Rattle.tree_theory.specs.Cluster.{mask}
use Rattle.gaps.proofs.column.Given as goal

abbrev pub invariant-loop-i : goal.invariant-loop-i
invariant-loop-i l = (l.i ≤ l.j) × (l.mask ≡ mask l.i (λ h. measured l.distances (h, l.j)))
