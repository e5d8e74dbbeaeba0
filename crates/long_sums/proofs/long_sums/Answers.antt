-- A digit a turn.
use Prim.Native.Nat.{◌-◌}
use native.Mathlib.Omega.{arith}
use Rattle.paths.proofs.Bounds.{few-edges}
use Rattle.long_sums.proofs.Gathering.{gather_start, gather_end, level-room, level-ready, level-range, levels, gather_turn}
use Rattle.long_sums.proofs.long_sums.Goals as goal

pub loop-k-init : goal.loop-k-init
loop-k-init c = gather_start c.requires _ c.filled-tops.ensures.throughout

pub offset_bounds-d-k : goal.offset_bounds-d-k
offset_bounds-d-k c = omega (arith, c.loop-k-test.true, c.requires.levels)

pub bounds-d-k : goal.bounds-d-k
bounds-d-k c = omega (arith, c.loop-k-test.true, c.requires.levels)

pub offset_bounds-digits-at : goal.offset_bounds-digits-at
offset_bounds-digits-at c = omega (arith, level-room c.requires c.loop-k.invariant c.loop-k-test.true)

pub slice_bounds-level_sums-count : goal.slice_bounds-level_sums-count
slice_bounds-level_sums-count c = omega (arith, level-room c.requires c.loop-k.invariant c.loop-k-test.true)

pub slice_bounds-level_sums-start : goal.slice_bounds-level_sums-start
slice_bounds-level_sums-start c = omega (arith, level-room c.requires c.loop-k.invariant c.loop-k-test.true)

pub level_sums-sums-requires : goal.level_sums-sums-requires
level_sums-sums-requires c = let p = c.requires in
    record {
      ready = level-ready p c.loop-k.invariant c.loop-k-test.true;
      in_range = level-range p c.loop-k.invariant c.loop-k-test.true;
    }

pub next_level-tops-requires : goal.next_level-tops-requires
next_level-tops-requires c = let p = c.requires in
    let t = c.loop-k-test.true in
    record {
      edges_le_max_edges = few-edges p.standing;
      levels = levels p c.loop-k.invariant t c.level_sums-sums.ensures;
    }

pub overflow_add-at : goal.overflow_add-at
overflow_add-at c = omega (arith, level-room c.requires c.loop-k.invariant c.loop-k-test.true)

pub loop-k-preserved : goal.loop-k-preserved
loop-k-preserved c = let p = c.requires in
    let t = c.loop-k-test.true in
    gather_turn p c.loop-k.invariant t c.level_sums-sums.ensures c.next_level-tops.ensures

pub returns : goal.returns
returns c = gather_end c.requires c.loop-k-test.false c.loop-k.invariant
