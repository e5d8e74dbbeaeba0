-- A look at every distance, one turn each.
use Prim.Native.Nat.{◌-◌}
use lib.ListN.{length}
use Rattle.matrix.proofs.Looking.{Looking}
use Rattle.matrix.proofs.look.Given as goal

abbrev pub invariant-loop-far : goal.invariant-loop-far
invariant-loop-far l = Looking l.distances l.out l.missing l.far-index
