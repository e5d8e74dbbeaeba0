-- `handed_up`: one vertex a turn, which has all that is below it.
use native.Mathlib.Omega.{arith}
use Prim.Native.Nat.{◌-◌}
use Rattle.exact.proofs.Sign.{back}
use Rattle.exact.specs.Table.{entry_of}
use Rattle.edge_sums.proofs.HandingUp.{hand_start, hand_end, parent_low, parent_abs, own_abs, hand_room, hand_turn}
use Rattle.edge_sums.proofs.handed_up.Goals as goal

pub loop-v-init : goal.loop-v-init
loop-v-init c = hand_start c.requires.rooted c.args.own.now c.requires.own_len.1 c.requires.own_len.0 _ c.filled-sums.ensures.throughout

pub overflow_cast-parents : goal.overflow_cast-parents
overflow_cast-parents c = omega (arith, parent_low c.requires.rooted c.args.own.now c.requires.own_len.1 c.loop-v-test.true c.loop-v.invariant)

pub put-requires : goal.put-requires
put-requires c = let edge = c.loop-v-test.true in
    let first = c.args.own.now in
    let whole = back (entry_of c.loop-v.own c.loop-v.v) (own_abs c.requires.rooted first c.requires.own_len.1 edge c.loop-v.invariant) in record {
      own_len = (c.loop-v.invariant.size, omega (arith, parent_low c.requires.rooted first c.requires.own_len.1 edge c.loop-v.invariant));
      x_bound = hand_room c.requires.rooted first c.requires.own_len.1 edge c.loop-v.invariant _ whole;
      k_bound = parent_abs c.requires.rooted first c.requires.own_len.1 edge c.loop-v.invariant;
    }

pub loop-v-preserved : goal.loop-v-preserved
loop-v-preserved c = let edge = c.loop-v-test.true in
    let first = c.args.own.now in
    let whole = back (entry_of c.loop-v.own c.loop-v.v) (own_abs c.requires.rooted first c.requires.own_len.1 edge c.loop-v.invariant) in
    hand_turn c.requires.rooted first c.requires.own_len.1 edge c.loop-v.invariant _ _ c.put.new.own whole whole c.put.ensures

pub returns : goal.returns
returns c = hand_end c.requires.rooted c.args.own.now c.requires.own_len.1 c.loop-v-test.false c.loop-v.invariant
