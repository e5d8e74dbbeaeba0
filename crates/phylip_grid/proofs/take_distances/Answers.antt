-- A column a turn, behind those of the strains before it.
use mathlib.Core.Path.{◌≡◌, refl}
use native.Mathlib.Omega.{arith}
use Rattle.phylip_grid.proofs.Taking.{take-start, room, take-turn, take-end}
use Rattle.phylip_grid.proofs.take_distances.Goals as goal

pub loop-j-init : goal.loop-j-init
loop-j-init c = take-start _ c.args.n _ c.requires.2 _ refl

pub column-requires : goal.column-requires
column-requires c = let t = c.loop-j.invariant in record {
  j_lt_max_strains = (omega arith, omega arith, t.begins, omega (arith, t.size, room _ _ _ c.requires.2 t c.loop-j-test.true));
  filling = t.filling;
}

pub overflow_add-first : goal.overflow_add-first
overflow_add-first c = record { fits = omega (arith, room _ _ _ c.requires.2 c.loop-j.invariant c.loop-j-test.true) }

pub loop-j-preserved : goal.loop-j-preserved
loop-j-preserved c = take-turn _ c.args.n _ c.requires.2 c.loop-j.invariant _ c.column.ensures.0 c.column.ensures.1

pub shape_of-distances : goal.shape_of-distances
shape_of-distances c = c.loop-j.invariant.size

pub returns : goal.returns
returns c = let e : c.loop-j.j ≡ c.args.n = omega arith in take-end _ _ _ c.requires.2 c.loop-j.invariant e
