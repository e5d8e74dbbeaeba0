-- `rows_between`: one strain's row a turn, the lowest strain that is left.
use Rattle.splits.proofs.Adding.{add_start, add-end, strain_in, sum_fits, add_turn}
use Rattle.splits.proofs.Reading.{row-part, row_read}
use Rattle.splits.proofs.rows_between.Goals as goal

pub loop-left-init : goal.loop-left-init
loop-left-init c = add_start _ _

pub lowest_strain-low-requires : goal.lowest_strain-low-requires
lowest_strain-low-requires c = c.loop-left-test.true

pub between-sum-requires : goal.between-sum-requires
between-sum-requires c = let low = c.lowest_strain-low in
    record {
      j_lt_max_strains = low.ensures.within;
      apart = c.requires.by_index low.result.strain (strain_in (row-part c.args.distances.now c.requires.by_index_2 c.args.others) c.loop-left.invariant low.ensures);
      by_index = c.requires.by_index_2;
    }

pub overflow_add-sum : goal.overflow_add-sum
overflow_add-sum c = let ds = c.args.distances.now in
    let low = c.lowest_strain-low in
    sum_fits (row-part ds c.requires.by_index_2 c.args.others) c.loop-left.invariant low.ensures (row_read ds c.requires.by_index_2 c.args.others low.result.strain c.between-sum.result c.between-sum.ensures)

pub loop-left-smaller : goal.loop-left-smaller
loop-left-smaller c = c.lowest_strain-low.ensures.less

pub loop-left-preserved : goal.loop-left-preserved
loop-left-preserved c = let ds = c.args.distances.now in
    let low = c.lowest_strain-low in
    add_turn (row-part ds c.requires.by_index_2 c.args.others) c.loop-left.invariant low.ensures (row_read ds c.requires.by_index_2 c.args.others low.result.strain c.between-sum.result c.between-sum.ensures)

pub returns : goal.returns
returns c = add-end c.loop-left-test.false c.loop-left.invariant
