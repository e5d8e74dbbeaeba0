-- `join`: one strain's row a turn, the lowest strain that is left.
use Rattle.std.proofs.Common.{arith}
use Rattle.meeting.proofs.Meetings.{join-start, join-end, join_apart, join-room, give_room, join-turn}
use Rattle.meeting.proofs.join.Goals as goal

pub loop-left-init : goal.loop-left-init
loop-left-init c = join-start c.requires.own_len.0

pub lowest_strain-low-requires : goal.lowest_strain-low-requires
lowest_strain-low-requires c = c.loop-left-test.true

pub row-r-requires : goal.row-r-requires
row-r-requires c = let low = c.lowest_strain-low in
    record {
      carrying = c.requires.carrying;
      apart = join_apart c.requires.by_index c.requires.there_bound c.loop-left.invariant low.ensures;
      own_len = (c.loop-left.invariant.size, join-room c.requires.by_index c.requires.there_bound c.loop-left.invariant low.ensures);
    }

pub give-requires : goal.give-requires
give-requires c = let low = c.lowest_strain-low in
    let row = c.row-r in record {
      own_len = (row.ensures.size, omega (arith, low.ensures.within), c.requires.own_len.1);
      r_bound = give_room c.requires.by_index c.requires.there_bound c.loop-left.invariant low.ensures row.ensures;
    }

pub loop-left-smaller : goal.loop-left-smaller
loop-left-smaller c = c.lowest_strain-low.ensures.less

pub loop-left-preserved : goal.loop-left-preserved
loop-left-preserved c = let low = c.lowest_strain-low in
    let row = c.row-r in
    join-turn c.requires.by_index c.requires.there_bound c.loop-left.invariant low.ensures row.ensures c.give.ensures

pub returns : goal.returns
returns c = join-end c.loop-left-test.false c.loop-left.invariant
