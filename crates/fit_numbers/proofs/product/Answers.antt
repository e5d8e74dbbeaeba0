-- A missing pair gives nothing, a measured one a product that fits.
use mathlib.Core.Path.{◌≡◌}
use mathlib.Core.Bool.{true}
use Prim.Native.Nat.{ℕ, ◌<◌}
use native.Mathlib.Omega.{arith}
use lib.ListN.{length}
use Rattle.matrix.specs.Place.{measured}
use Rattle.pairs.proofs.Remaining.{slot, has}
use Rattle.fit_numbers.proofs.Terms.{term-none, term_fits, term-back}
use Rattle.fit_numbers.proofs.Back.{ready_of, read_fits}
use Rattle.fit_numbers.proofs.product.Goals as goal
use Rattle.fit_numbers.proofs.product.Goals.{After-place, Else-far}

module _ (c : After-place) where
  abbrev i : ℕ
  i = c.args.i

  abbrev j : ℕ
  j = c.args.j

  rising : i < j
  rising = c.requires.i_lt_j.0

  strain : j < c.args.n
  strain = c.requires.i_lt_j.1

  found : c.place.result < length c.args.distances.now
  found = omega (arith, c.place.ensures, slot (ready_of c.requires.summable) i j rising strain)

-- the pair is measured
there : (c : Else-far) → measured c.args.distances.now (i (goal.at.Else-far c).After-place, j (goal.at.Else-far c).After-place) ≡ true
there c = has (ready_of c.requires.summable) (i (goal.at.Else-far c).After-place) (j (goal.at.Else-far c).After-place) (rising (goal.at.Else-far c).After-place) (strain (goal.at.Else-far c).After-place) _ c.place.ensures c.if-far.false

pub offset_bounds-distances-place : goal.offset_bounds-distances-place
offset_bounds-distances-place c = record { fits = omega (arith, found c) }

pub bounds-distances-place : goal.bounds-distances-place
bounds-distances-place c = found (goal.at.bounds-distances-place c).After-place

pub returns-then-far : goal.returns-then-far
returns-then-far c = term-none (ready_of c.requires.summable) c.requires.in_range (i (goal.at.returns-then-far c).After-place) (j (goal.at.returns-then-far c).After-place) (rising (goal.at.returns-then-far c).After-place) (strain (goal.at.returns-then-far c).After-place) _ c.place.ensures c.if-far.true

pub overflow_cast-result : goal.overflow_cast-result
overflow_cast-result c = read_fits (ready_of c.requires.summable) (i (goal.at.overflow_cast-result c).After-place) (j (goal.at.overflow_cast-result c).After-place) (rising (goal.at.overflow_cast-result c).After-place) (strain (goal.at.overflow_cast-result c).After-place) _ c.place.ensures (there c)

pub overflow_mul-result : goal.overflow_mul-result
overflow_mul-result c = term_fits (ready_of c.requires.summable) c.requires.in_range (i (goal.at.overflow_mul-result c).After-place) (j (goal.at.overflow_mul-result c).After-place) (rising (goal.at.overflow_mul-result c).After-place) (strain (goal.at.overflow_mul-result c).After-place) _ c.place.ensures (there (goal.at.overflow_mul-result c).Else-far) _ c.remainder.ensures

pub returns : goal.returns
returns c = term-back (ready_of c.requires.summable) c.requires.in_range (i (goal.at.returns c).After-place) (j (goal.at.returns c).After-place) (rising (goal.at.returns c).After-place) (strain (goal.at.returns c).After-place) _ c.place.ensures (there (goal.at.returns c).Else-far) _ c.remainder.ensures
