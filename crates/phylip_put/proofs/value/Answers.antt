-- On the diagonal, and beside it.
use native.Mathlib.Omega.{arith}
use borrow.Author.Tests.{eq-eqb}
use Rattle.phylip_put.proofs.Putting.{pair-within, value-off}
use Rattle.phylip_put.proofs.value.Goals as goal

pub returns-then-i-j : goal.returns-then-i-j
returns-then-i-j c = simp (eq-eqb _ _ c.if-i-j.true)

pub offset_bounds-distances-pair_place : goal.offset_bounds-distances-pair_place
offset_bounds-distances-pair_place c = omega (arith, c.pair_place.ensures, pair-within c.args.n c.args.i c.args.j c.args.distances.now c.requires.0 c.requires.1 c.if-i-j.false c.requires.3)

pub bounds-distances-pair_place : goal.bounds-distances-pair_place
bounds-distances-pair_place c = omega (arith, c.pair_place.ensures, pair-within c.args.n c.args.i c.args.j c.args.distances.now c.requires.0 c.requires.1 c.if-i-j.false c.requires.3)

pub returns : goal.returns
returns c = value-off c.args.distances.now _ _ _ c.if-i-j.false c.pair_place.ensures
