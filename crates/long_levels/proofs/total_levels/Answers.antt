-- One level a turn.
use mathlib.Core.Path.{◌∙◌}
use Prim.Native.Nat.{◌-◌}
use native.Mathlib.Omega.{arith}
use Rattle.long_levels.proofs.Levelling.{level-start, level-turn, level-end, level-room, level-range, level-sum, level-sum-near, small-back}
use Rattle.long_levels.proofs.total_levels.Goals as goal

pub loop-k-init : goal.loop-k-init
loop-k-init c = (level-start _ _ _ c.filled-sums.ensures.throughout, omega arith)

pub offset_bounds-digits-at : goal.offset_bounds-digits-at
offset_bounds-digits-at c = let l = c.loop-k in omega (arith, level-room c.args.edges c.args.levels c.args.digits.now c.requires.levels_le_max_levels.2 c.requires.by_index l.k l.at c.loop-k-test.true l.invariant.1)

pub slice_bounds-total-count : goal.slice_bounds-total-count
slice_bounds-total-count c = let l = c.loop-k in omega (arith, level-room c.args.edges c.args.levels c.args.digits.now c.requires.levels_le_max_levels.2 c.requires.by_index l.k l.at c.loop-k-test.true l.invariant.1)

pub slice_bounds-total-start : goal.slice_bounds-total-start
slice_bounds-total-start c = let l = c.loop-k in omega (arith, level-room c.args.edges c.args.levels c.args.digits.now c.requires.levels_le_max_levels.2 c.requires.by_index l.k l.at c.loop-k-test.true l.invariant.1)

pub total-requires : goal.total-requires
total-requires c = let l = c.loop-k in record {
  edges_le_max_edges = c.requires.levels_le_max_levels.1;
  in_range = level-range c.args.edges c.args.levels c.args.digits.now c.requires.levels_le_max_levels.2 c.requires.by_index l.k l.at c.loop-k-test.true l.invariant.1;
}

pub bounds-sums-k : goal.bounds-sums-k
bounds-sums-k c = omega (arith, c.loop-k-test.true, c.requires.levels_le_max_levels.0)

pub overflow_add-at : goal.overflow_add-at
overflow_add-at c = let l = c.loop-k in omega (arith, level-room c.args.edges c.args.levels c.args.digits.now c.requires.levels_le_max_levels.2 c.requires.by_index l.k l.at c.loop-k-test.true l.invariant.1)

pub loop-k-preserved : goal.loop-k-preserved
loop-k-preserved c = let l = c.loop-k in let t = c.loop-k-test.true in
    let near = level-sum-near c.args.edges c.args.levels c.args.digits.now c.requires.levels_le_max_levels.2 c.requires.by_index l.k l.at (t) l.invariant.1 c.requires.levels_le_max_levels.1 in
    (level-turn _ _ c.requires.levels_le_max_levels.0 l.k l.sums _ t (small-back _ _ (c.total.ensures ∙ level-sum c.args.edges c.args.levels c.args.digits.now c.requires.levels_le_max_levels.2 c.requires.by_index l.k l.at (t) l.invariant.1) (omega (arith, near))) (omega (arith, near)) l.invariant.0, omega (arith, l.invariant.1))

pub returns : goal.returns
returns c = level-end _ _ c.loop-k.k c.loop-k.sums c.loop-k-test.false c.loop-k.invariant.0
