-- Every step fits: the distance stands at its place, D times it is small, and so is the path.
use mathlib.Core.Path.{◌≡◌, sym}
use mathlib.Core.Bool.{true}
use Prim.Native.Nat.{ℕ, ◌<◌}
use native.Mathlib.Omega.{arith}
use lib.ListN.{length}
use mir.Facts.{to_z-of_z}
use Rattle.exact.proofs.Sign.{fits_abs}
use Rattle.matrix.specs.Place.{place, measured}
use Rattle.pairs.proofs.Remaining.{slot, has, has_not, far-near, scaled, scaled_fits, remainder-fits, worked}
use Rattle.fit_numbers.proofs.Back.{ready_of}
use Rattle.fit_numbers.proofs.remainder.Goals as goal
use Rattle.fit_numbers.proofs.remainder.Goals.{After-place, Else-observed}

module _ (c : After-place) where
  abbrev n : ℕ
  n = c.args.n

  abbrev i : ℕ
  i = c.args.i

  abbrev j : ℕ
  j = c.args.j

  rising : i < j
  rising = c.requires.i_lt_j.0

  strain : j < n
  strain = c.requires.i_lt_j.1

  same : c.place.result ≡ place i j
  same = c.place.ensures

  found : c.place.result < length c.args.distances.now
  found = omega (arith, same, slot (ready_of c.requires.summable) i j rising strain)

-- the pair is measured
there : (c : Else-observed) → measured c.args.distances.now (i (goal.at.Else-observed c).After-place, j (goal.at.Else-observed c).After-place) ≡ true
there c = has (ready_of c.requires.summable) (i (goal.at.Else-observed c).After-place) (j (goal.at.Else-observed c).After-place) (rising (goal.at.Else-observed c).After-place) (strain (goal.at.Else-observed c).After-place) _ (same (goal.at.Else-observed c).After-place) c.if-observed.false

pub offset_bounds-distances-place : goal.offset_bounds-distances-place
offset_bounds-distances-place c = record { fits = omega (arith, found c) }

pub bounds-distances-place : goal.bounds-distances-place
bounds-distances-place c = found (goal.at.bounds-distances-place c).After-place

pub returns-then-observed : goal.returns-then-observed
returns-then-observed c = sym (has_not (ready_of c.requires.summable) (i (goal.at.returns-then-observed c).After-place) (j (goal.at.returns-then-observed c).After-place) (rising (goal.at.returns-then-observed c).After-place) (strain (goal.at.returns-then-observed c).After-place) _ (same (goal.at.returns-then-observed c).After-place) c.if-observed.true)

pub overflow_cast-result-2 : goal.overflow_cast-result-2
overflow_cast-result-2 c = rw (same (goal.at.overflow_cast-result-2 c).After-place) (fits_abs _ (omega (arith, far-near (ready_of c.requires.summable) (i (goal.at.overflow_cast-result-2 c).After-place) (j (goal.at.overflow_cast-result-2 c).After-place) (rising (goal.at.overflow_cast-result-2 c).After-place) (strain (goal.at.overflow_cast-result-2 c).After-place) (there c))))

pub overflow_mul-result : goal.overflow_mul-result
overflow_mul-result c = let w = ready_of c.requires.summable in
    rw (same (goal.at.overflow_mul-result c).After-place, scaled w (i (goal.at.overflow_mul-result c).After-place) (j (goal.at.overflow_mul-result c).After-place) (rising (goal.at.overflow_mul-result c).After-place) (strain (goal.at.overflow_mul-result c).After-place) (there c)) (scaled_fits w (i (goal.at.overflow_mul-result c).After-place) (j (goal.at.overflow_mul-result c).After-place) (rising (goal.at.overflow_mul-result c).After-place) (strain (goal.at.overflow_mul-result c).After-place) (there c))

pub path-requires : goal.path-requires
path-requires c =
    record {
      lengthened = c.requires.summable.lengthened;
      between = c.requires.between;
      i_lt_j = (omega (arith, rising (goal.at.path-requires c).After-place), strain (goal.at.path-requires c).After-place);
    }

pub overflow_sub-result : goal.overflow_sub-result
overflow_sub-result c = let w = ready_of c.requires.summable in
    rw (worked w (i (goal.at.overflow_sub-result c).After-place) (j (goal.at.overflow_sub-result c).After-place) (rising (goal.at.overflow_sub-result c).After-place) (strain (goal.at.overflow_sub-result c).After-place) _ _ (same (goal.at.overflow_sub-result c).After-place) (there (goal.at.overflow_sub-result c).Else-observed) c.path.ensures) (remainder-fits w (i (goal.at.overflow_sub-result c).After-place) (j (goal.at.overflow_sub-result c).After-place) (rising (goal.at.overflow_sub-result c).After-place) (strain (goal.at.overflow_sub-result c).After-place))

pub returns : goal.returns
returns c = let w = ready_of c.requires.summable in
    rw (worked w (i (goal.at.returns c).After-place) (j (goal.at.returns c).After-place) (rising (goal.at.returns c).After-place) (strain (goal.at.returns c).After-place) _ _ (same (goal.at.returns c).After-place) (there (goal.at.returns c).Else-observed) c.path.ensures) (to_z-of_z (remainder-fits w (i (goal.at.returns c).After-place) (j (goal.at.returns c).After-place) (rising (goal.at.returns c).After-place) (strain (goal.at.returns c).After-place)))
