-- `row`: one strain a turn, the lowest that is left.
use Rattle.std.proofs.Common.{◌≡◌, arith, to_z-of_z, w64, to_z, of_z}
use Rattle.meeting.specs.Meeting.{remainder_by_ways}
use Rattle.meeting.proofs.ByWays.{by_ways_fits}
use Rattle.meeting.proofs.Rows.{row-start, row-end, strain_in, row_room, sum_fits, row-turn}
use Rattle.meeting.proofs.row.Goals as goal
use Rattle.meeting.proofs.row.Goals.{After-remainder_by_ways-r}

-- the number that is put
told : (c : After-remainder_by_ways-r) → let a = c.args in
    to_z w64 (of_z w64 c.remainder_by_ways-r.result) ≡ remainder_by_ways a.d a.distances.now a.ways.now c.lowest_strain-low.result.strain a.j
told c =
    let low = c.lowest_strain-low in
    let apart = c.requires.apart.strains _ (strain_in c.requires.apart c.requires.own_len.1 c.loop-left.invariant low.ensures) in
    rw c.remainder_by_ways-r.ensures (to_z-of_z (by_ways_fits c.requires.carrying low.result.strain c.args.j apart.0 apart.1 apart.2))

pub loop-left-init : goal.loop-left-init
loop-left-init c = row-start c.requires.own_len.0

pub lowest_strain-low-requires : goal.lowest_strain-low-requires
lowest_strain-low-requires c = c.loop-left-test.true

pub remainder_by_ways-r-requires : goal.remainder_by_ways-r-requires
remainder_by_ways-r-requires c = record {
  carrying = c.requires.carrying;
  i_lt_n = c.requires.apart.strains _ (strain_in c.requires.apart c.requires.own_len.1 c.loop-left.invariant c.lowest_strain-low.ensures);
}

pub put-requires : goal.put-requires
put-requires c =
    let low = c.lowest_strain-low in
    let room = row_room c.requires.apart c.requires.own_len.1 c.loop-left.invariant low.ensures (told (goal.at.put-requires c).After-remainder_by_ways-r) in
    record { own_len = (c.loop-left.invariant.size, omega (arith, low.ensures.within)); x_bound = room.0; k_bound = room.1 }

pub overflow_add-whole : goal.overflow_add-whole
overflow_add-whole c = let low = c.lowest_strain-low in
    sum_fits c.requires.apart c.requires.own_len.1 c.loop-left.invariant low.ensures (told (goal.at.overflow_add-whole c).After-remainder_by_ways-r)

pub loop-left-smaller : goal.loop-left-smaller
loop-left-smaller c = c.lowest_strain-low.ensures.less

pub loop-left-preserved : goal.loop-left-preserved
loop-left-preserved c = let low = c.lowest_strain-low in
    row-turn c.requires.apart c.requires.own_len.1 c.loop-left.invariant low.ensures (told (goal.at.loop-left-preserved c).After-remainder_by_ways-r) c.put.ensures

pub returns : goal.returns
returns c = row-end c.loop-left-test.false c.loop-left.invariant
