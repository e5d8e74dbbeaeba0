-- Either mask may be gone through strain by strain.
use Rattle.meeting.proofs.Swapping.{swap_apart, swap_room, swap_met, as_named}
use Rattle.meeting.proofs.meet.Goals as goal
use Rattle.meeting.proofs.meet.Goals.{then-there-wrapping_sub_u64-eq0, else-there-wrapping_sub_u64-eq0}

pub join-requires-clause-by_index : goal.join-requires-clause-by_index
join-requires-clause-by_index c = elim c.if-there-wrapping_sub_u64-eq0.branch [
  | then-there-wrapping_sub_u64-eq0 w ↦ rw (w.each-is, w.others-is) (swap_apart c.requires.by_index)
  | else-there-wrapping_sub_u64-eq0 w ↦ rw (w.each-is, w.others-is) c.requires.by_index
]

pub join-requires-clause-there_bound : goal.join-requires-clause-there_bound
join-requires-clause-there_bound c = elim c.if-there-wrapping_sub_u64-eq0.branch [
  | then-there-wrapping_sub_u64-eq0 w ↦ rw (w.each-is, w.others-is) (swap_room c.args.here c.args.there c.args.own.now c.requires.there_bound)
  | else-there-wrapping_sub_u64-eq0 w ↦ rw (w.each-is, w.others-is) c.requires.there_bound
]

pub returns : goal.returns
returns c = elim c.if-there-wrapping_sub_u64-eq0.branch [
  | then-there-wrapping_sub_u64-eq0 w ↦ swap_met (as_named w.each-is w.others-is c.join.ensures)
  | else-there-wrapping_sub_u64-eq0 w ↦ as_named w.each-is w.others-is c.join.ensures
]
