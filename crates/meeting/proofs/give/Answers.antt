-- `give`: the two shares one after the other.
use Rattle.meeting.proofs.Giving.{first-room, second-room, minus-fits, twice-fits, all-given}
use Rattle.meeting.proofs.give.Goals as goal

pub put-requires : goal.put-requires
put-requires c =
    let room = first-room c.args.j c.args.m c.args.r c.ranges.r c.args.own.now c.requires.own_len.1 c.requires.own_len.2 c.requires.r_bound in
    record { own_len = (c.requires.own_len.0, c.requires.own_len.1); x_bound = room.0; k_bound = room.1 }

pub overflow_sub-r : goal.overflow_sub-r
overflow_sub-r c = minus-fits c.args.j c.args.m c.args.r c.ranges.r c.args.own.now c.requires.own_len.1 c.requires.own_len.2 c.requires.r_bound

pub overflow_sub-r-2 : goal.overflow_sub-r-2
overflow_sub-r-2 c = twice-fits c.args.j c.args.m c.args.r c.ranges.r c.args.own.now c.requires.own_len.1 c.requires.own_len.2 c.requires.r_bound

pub put-requires-2 : goal.put-requires-2
put-requires-2 c =
    let one = c.put in
    let room = second-room c.args.j c.args.m c.args.r c.ranges.r c.args.own.now c.requires.own_len.1 c.requires.own_len.2 c.requires.r_bound one.new.own one.ensures in
    record { own_len = (one.ensures.size, c.requires.own_len.2); x_bound = room.0; k_bound = room.1 }

pub returns : goal.returns
returns c = let one = c.put in
    all-given c.args.j c.args.m c.args.r c.ranges.r c.args.own.now c.requires.own_len.1 c.requires.own_len.2 c.requires.r_bound one.new.own one.ensures c.put-2.new.own c.put-2.ensures
