-- `before`: one strain a turn, the lowest that is left; each is before j.
use Rattle.std.proofs.Common.{◌≡◌, ◌<◌, length, sym, ◌∙◌, arith}
use Rattle.matrix.specs.Place.{pair_place}
use Rattle.matrix.proofs.Places.{pair-place-up}
use Rattle.splits.proofs.Adding.{add_start, add-end, strain_in, sum_fits, add_turn}
use Rattle.splits.proofs.Reading.{read_fits, entry-part, entry_read}
use Rattle.splits.proofs.before.Goals as goal
use Rattle.splits.proofs.before.Goals.{After-place-at}

-- where the pair stands
at_pair : (c : After-place-at) → (c.place-at.result ≡ pair_place c.lowest_strain-low.result.strain c.args.j) × (c.place-at.result < length c.args.distances.now)
at_pair c = let low = c.lowest_strain-low in
    let in-it = strain_in (entry-part c.args.distances.now c.requires.by_index_2 c.args.j) c.loop-left.invariant low.ensures in
    let e = c.place-at.ensures ∙ sym (pair-place-up low.result.strain c.args.j (c.requires.by_index low.result.strain in-it)) in
    (e, omega (arith, e, (c.requires.apart low.result.strain in-it).1))

pub loop-left-init : goal.loop-left-init
loop-left-init c = add_start _ _

pub lowest_strain-low-requires : goal.lowest_strain-low-requires
lowest_strain-low-requires c = c.loop-left-test.true

pub place-at-requires : goal.place-at-requires
place-at-requires c = let low = c.lowest_strain-low in
    let in-it = strain_in (entry-part c.args.distances.now c.requires.by_index_2 c.args.j) c.loop-left.invariant low.ensures in
    (c.requires.by_index low.result.strain in-it, c.requires.j_lt_max_strains)

pub offset_bounds-distances-at : goal.offset_bounds-distances-at
offset_bounds-distances-at c = omega (arith, (at_pair c).1)

pub bounds-distances-at : goal.bounds-distances-at
bounds-distances-at c = (at_pair (goal.at.bounds-distances-at c).After-place-at).1

pub overflow_cast-sum : goal.overflow_cast-sum
overflow_cast-sum c = read_fits c.args.distances.now c.requires.by_index_2 c.place-at.result

pub overflow_add-sum : goal.overflow_add-sum
overflow_add-sum c = let ds = c.args.distances.now in
    let low = c.lowest_strain-low in
    sum_fits (entry-part ds c.requires.by_index_2 c.args.j) c.loop-left.invariant low.ensures (entry_read ds c.requires.by_index_2 low.result.strain c.args.j c.place-at.result (at_pair (goal.at.overflow_add-sum c).After-place-at).0)

pub loop-left-smaller : goal.loop-left-smaller
loop-left-smaller c = c.lowest_strain-low.ensures.less

pub loop-left-preserved : goal.loop-left-preserved
loop-left-preserved c = let ds = c.args.distances.now in
    let low = c.lowest_strain-low in
    add_turn (entry-part ds c.requires.by_index_2 c.args.j) c.loop-left.invariant low.ensures (entry_read ds c.requires.by_index_2 low.result.strain c.args.j c.place-at.result (at_pair (goal.at.loop-left-preserved c).After-place-at).0)

pub returns : goal.returns
returns c = add-end c.loop-left-test.false c.loop-left.invariant
