use Prim.Native.Nat.{◌-◌}
use native.Mathlib.Omega.{arith}
use Rattle.long_sums.proofs.Topping.{top_start, top-end, top-room, top-levels, top-turn}
use Rattle.long_sums.proofs.long_tops.Goals as goal

pub loop-k-init : goal.loop-k-init
loop-k-init c = top_start c.requires _ c.filled-tops.ensures.throughout

pub offset_bounds-digits-at : goal.offset_bounds-digits-at
offset_bounds-digits-at c = omega (arith, top-room c.requires c.loop-k.invariant c.loop-k-test.true)

pub slice_bounds-next_level-count : goal.slice_bounds-next_level-count
slice_bounds-next_level-count c = omega (arith, top-room c.requires c.loop-k.invariant c.loop-k-test.true)

pub slice_bounds-next_level-start : goal.slice_bounds-next_level-start
slice_bounds-next_level-start c = omega (arith, top-room c.requires c.loop-k.invariant c.loop-k-test.true)

pub next_level-tops-requires : goal.next_level-tops-requires
next_level-tops-requires c = let p = c.requires in
    record {
      edges_le_max_edges = p.few;
      levels = top-levels p c.loop-k.invariant c.loop-k-test.true;
    }

pub overflow_add-at : goal.overflow_add-at
overflow_add-at c = omega (arith, top-room c.requires c.loop-k.invariant c.loop-k-test.true)

pub loop-k-preserved : goal.loop-k-preserved
loop-k-preserved c = top-turn c.requires c.loop-k.invariant c.loop-k-test.true c.next_level-tops.ensures

pub returns : goal.returns
returns c = top-end c.requires c.loop-k-test.false c.loop-k.invariant
