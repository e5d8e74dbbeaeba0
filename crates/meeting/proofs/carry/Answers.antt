-- `carry`: one strain a turn, the lowest that is left.
use Rattle.std.proofs.Common.{◌≤◌, nat_abs, ap, subst, arith, to_z-of_z, w64, to_z, of_z}
use Rattle.lengths.specs.Limits.{max_numerator}
use Rattle.meeting.specs.Meeting.{Carried}
use Rattle.meeting.proofs.Carries.{carry_start, carry_fits, carry_turn, carry_end}
use Rattle.meeting.proofs.carry.Goals as goal
use Rattle.meeting.proofs.carry.Goals.{After-ways-1}

-- x as it is passed
near : (c : After-ways-1) → nat_abs (to_z w64 (of_z w64 c.args.x)) ≤ max_numerator
near c = omega (arith, ap nat_abs (to_z-of_z c.ranges.x), c.requires.x_bound)

pub loop-left-init : goal.loop-left-init
loop-left-init c = carry_start c.requires.ways_len

pub lowest_strain-low-requires : goal.lowest_strain-low-requires
lowest_strain-low-requires c = c.loop-left-test.true

pub offset_bounds-ways-i : goal.offset_bounds-ways-i
offset_bounds-ways-i c = omega (arith, c.lowest_strain-low.ensures.within)

pub bounds-ways-i : goal.bounds-ways-i
bounds-ways-i c = c.lowest_strain-low.ensures.within

pub overflow_add-ways : goal.overflow_add-ways
overflow_add-ways c = carry_fits c.loop-left.invariant c.requires.by_index (near c) c.lowest_strain-low.ensures

pub offset_bounds-ways-i-in-loop-left : goal.offset_bounds-ways-i-in-loop-left
offset_bounds-ways-i-in-loop-left c = omega (arith, c.lowest_strain-low.ensures.within)

pub bounds-ways-i-in-loop-left : goal.bounds-ways-i-in-loop-left
bounds-ways-i-in-loop-left c = c.lowest_strain-low.ensures.within

pub loop-left-smaller : goal.loop-left-smaller
loop-left-smaller c = c.lowest_strain-low.ensures.less

pub loop-left-preserved : goal.loop-left-preserved
loop-left-preserved c = carry_turn c.loop-left.invariant c.requires.by_index (near c) c.lowest_strain-low.ensures

pub returns : goal.returns
returns c = subst (λ y. Carried c.args.here y c.args.ways.now c.loop-left.ways) (to_z-of_z c.ranges.x)
    (carry_end c.loop-left-test.false c.loop-left.invariant)
