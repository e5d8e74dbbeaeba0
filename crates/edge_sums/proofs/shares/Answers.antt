-- `shares`: one edge a turn, whose strains are carried to its parent and meet those that are there.
use Prim.Native.Nat.{◌-◌}
use native.Mathlib.Omega.{arith}
use Rattle.paths.proofs.Bounds.{few-edges}
use Rattle.edge_sums.proofs.Gathering.{gather_start, gather_end, parent_low, numerator-back, numerator-low, ways_low, turn-room, carrying, all_apart, gather_turn}
use Rattle.edge_sums.proofs.shares.Goals as goal

pub own_bits-come-requires : goal.own_bits-come-requires
own_bits-come-requires c = omega (arith, c.requires.ready.standing.allowed.few)

pub loop-v-init : goal.loop-v-init
loop-v-init c = gather_start c.requires.ready _ _ _ c.filled-own.ensures.throughout c.filled-ways.ensures.throughout c.own_bits-come.ensures

pub offset_bounds-masks-v : goal.offset_bounds-masks-v
offset_bounds-masks-v c = omega (arith, c.loop-v-test.true, few-edges c.requires.ready.standing)

pub bounds-masks-v : goal.bounds-masks-v
bounds-masks-v c = omega (arith, c.loop-v-test.true, few-edges c.requires.ready.standing)

pub bounds-parents-v : goal.bounds-parents-v
bounds-parents-v c = omega (arith, c.loop-v-test.true, c.requires.ready.standing.room)

pub overflow_cast-m : goal.overflow_cast-m
overflow_cast-m c = let edge = c.loop-v-test.true in
    omega (arith, parent_low c.requires.ready c.requires.in_range c.loop-v.invariant edge)

pub offset_bounds-come-m : goal.offset_bounds-come-m
offset_bounds-come-m c = let edge = c.loop-v-test.true in
    omega (arith, parent_low c.requires.ready c.requires.in_range c.loop-v.invariant edge)

pub bounds-come-m : goal.bounds-come-m
bounds-come-m c = let edge = c.loop-v-test.true in
    omega (arith, parent_low c.requires.ready c.requires.in_range c.loop-v.invariant edge)

pub offset_bounds-numerators-v : goal.offset_bounds-numerators-v
offset_bounds-numerators-v c = omega (arith, c.loop-v-test.true, few-edges c.requires.ready.standing)

pub bounds-numerators-v : goal.bounds-numerators-v
bounds-numerators-v c = omega (arith, c.loop-v-test.true, c.requires.ready.small.room)

pub carry-requires : goal.carry-requires
carry-requires c = let edge = c.loop-v-test.true in
    record {
      ways_len = c.loop-v.invariant.long;
      by_index = ways_low c.requires.ready c.requires.in_range c.loop-v.invariant edge;
      x_bound = numerator-low c.requires.ready c.requires.in_range c.loop-v.invariant edge;
    }

pub meet-requires : goal.meet-requires
meet-requires c = let edge = c.loop-v-test.true in
    let turn = numerator-back c.requires.ready c.requires.in_range c.loop-v.invariant edge in
    let come = c.carry.ensures in record {
      carrying = carrying c.requires.ready c.requires.in_range c.loop-v.invariant edge turn come;
      by_index = all_apart c.requires.ready c.requires.in_range c.loop-v.invariant edge turn come;
      own_len = (c.loop-v.invariant.size, omega (arith, parent_low c.requires.ready c.requires.in_range c.loop-v.invariant edge));
      there_bound = turn-room c.requires.ready c.requires.in_range c.loop-v.invariant edge;
    }

pub offset_bounds-come-m-in-loop-v : goal.offset_bounds-come-m-in-loop-v
offset_bounds-come-m-in-loop-v c = let edge = c.loop-v-test.true in
    omega (arith, parent_low c.requires.ready c.requires.in_range c.loop-v.invariant edge)

pub bounds-come-m-in-loop-v : goal.bounds-come-m-in-loop-v
bounds-come-m-in-loop-v c = let edge = c.loop-v-test.true in
    omega (arith, parent_low c.requires.ready c.requires.in_range c.loop-v.invariant edge)

pub loop-v-preserved : goal.loop-v-preserved
loop-v-preserved c = let edge = c.loop-v-test.true in
    gather_turn c.requires.ready c.requires.in_range c.loop-v.invariant edge (numerator-back c.requires.ready c.requires.in_range c.loop-v.invariant edge) c.carry.ensures c.meet.ensures

pub returns : goal.returns
returns c = let g = c.loop-v.invariant in
    let w = c.requires.ready in
    record {
      result_len = (g.size, omega (arith, g.light, g.here, few-edges w.standing));
      by_index = gather_end w c.loop-v-test.false g;
    }
