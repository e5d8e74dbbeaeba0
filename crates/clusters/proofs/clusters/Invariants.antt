-- `clusters`: the invariant is `Handed`, what the table holds when the vertices below v have handed their masks up.
use Prim.Native.Nat.{◌≤◌, ◌-◌}
use lib.ListN.{length}
use Rattle.tree_theory.specs.Chain.{parent_of}
use Rattle.clusters.proofs.Handing.{Handed}
use Rattle.clusters.proofs.clusters.Given as goal

abbrev pub invariant-loop-v : goal.invariant-loop-v
invariant-loop-v l = (l.v ≤ length l.parents) × Handed l.n (parent_of l.parents) l.v l.masks
