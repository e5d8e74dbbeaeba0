-- `remainder_by_ways`: every step fits, and the last is the remainder.
use Rattle.std.proofs.Common.{◌≡◌, ◌<◌, true, length, arith}
use Rattle.matrix.specs.Place.{measured_of}
use Rattle.meeting.proofs.ByWays.{slot, has, has_not, read_fits, scaled_fits, less-fits, least_fits, by_ways_back}
use Rattle.meeting.proofs.remainder_by_ways.Goals as goal
use Rattle.meeting.proofs.remainder_by_ways.Goals.{After-pair_place, Else-far}

found : (c : After-pair_place) → c.pair_place.result < length c.args.distances.now
found c = omega (arith, c.pair_place.ensures, slot c.requires.carrying c.args.i c.args.j c.requires.i_lt_n.0 c.requires.i_lt_n.1 c.requires.i_lt_n.2)

-- the pair is measured
there : (c : Else-far) → measured_of c.args.distances.now c.args.i c.args.j ≡ true
there c = has c.requires.carrying c.args.i c.args.j c.requires.i_lt_n.0 c.requires.i_lt_n.1 c.requires.i_lt_n.2 _ c.pair_place.ensures c.if-far.false

pub offset_bounds-distances-pair_place : goal.offset_bounds-distances-pair_place
offset_bounds-distances-pair_place c = omega (arith, found c)

pub bounds-distances-pair_place : goal.bounds-distances-pair_place
bounds-distances-pair_place c = found (goal.at.bounds-distances-pair_place c).After-pair_place

pub returns-then-far : goal.returns-then-far
returns-then-far c = has_not c.requires.carrying c.args.i c.args.j c.requires.i_lt_n.0 c.requires.i_lt_n.1 c.requires.i_lt_n.2 _ c.pair_place.ensures c.if-far.true

pub overflow_cast-result-2 : goal.overflow_cast-result-2
overflow_cast-result-2 c = read_fits c.requires.carrying c.args.i c.args.j c.requires.i_lt_n.0 c.requires.i_lt_n.1 c.requires.i_lt_n.2 _ c.pair_place.ensures (there c)

pub overflow_mul-result : goal.overflow_mul-result
overflow_mul-result c = scaled_fits c.requires.carrying c.args.i c.args.j c.requires.i_lt_n.0 c.requires.i_lt_n.1 c.requires.i_lt_n.2 _ c.pair_place.ensures (there c)

pub overflow_sub-result : goal.overflow_sub-result
overflow_sub-result c = less-fits c.requires.carrying c.args.i c.args.j c.requires.i_lt_n.0 c.requires.i_lt_n.1 c.requires.i_lt_n.2 _ c.pair_place.ensures (there (goal.at.overflow_sub-result c).Else-far)

pub overflow_sub-result-2 : goal.overflow_sub-result-2
overflow_sub-result-2 c = least_fits c.requires.carrying c.args.i c.args.j c.requires.i_lt_n.0 c.requires.i_lt_n.1 c.requires.i_lt_n.2 _ c.pair_place.ensures (there (goal.at.overflow_sub-result-2 c).Else-far)

pub returns : goal.returns
returns c = by_ways_back c.requires.carrying c.args.i c.args.j c.requires.i_lt_n.0 c.requires.i_lt_n.1 c.requires.i_lt_n.2 _ c.pair_place.ensures (there (goal.at.returns c).Else-far)
