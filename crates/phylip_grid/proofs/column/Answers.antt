-- A distance a turn, from one row further down.
use native.Mathlib.Omega.{arith}
use mathlib.Core.Path.{refl}
use lib.ListN.{length-set}
use Rattle.phylip_grid.proofs.Taking.{column-turn}
use Rattle.phylip_grid.proofs.column.Goals as goal

pub loop-i-init : goal.loop-i-init
loop-i-init c = (omega arith, refl, λ m h. c.requires.filling m (omega arith))

pub bounds-distances-first : goal.bounds-distances-first
bounds-distances-first c = omega (arith, c.loop-i.invariant.1)

pub loop-i-preserved : goal.loop-i-preserved
loop-i-preserved c = (omega arith, simp length-set c.loop-i.invariant.1, column-turn c.args.grid.now _ _ c.requires.j_lt_max_strains.2 _ _ c.loop-i.distances c.loop-i-test.true (omega (arith, c.requires.j_lt_max_strains.3, c.loop-i.invariant.1)) refl c.loop-i.invariant.2)

pub shape_of-distances : goal.shape_of-distances
shape_of-distances c = c.loop-i.invariant.1

pub returns : goal.returns
returns c = (c.loop-i.invariant.1, λ m h. c.loop-i.invariant.2 m (omega (arith, c.loop-i.invariant.0)))
