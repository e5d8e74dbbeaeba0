-- A column a turn, behind those of the strains before it.
use lib.ListN.{length}
use Rattle.phylip_grid.proofs.Taking.{TakenAt}
use Rattle.phylip_grid.proofs.take_distances.Given as goal

abbrev pub invariant-loop-j : goal.invariant-loop-j
invariant-loop-j l = TakenAt l.grid (length l.initial.distances) l.j l.first l.distances
