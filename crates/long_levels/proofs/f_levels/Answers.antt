-- One level a turn.
use mathlib.Core.Path.{sym, ◌∙◌, ap, subst}
use Prim.Native.Nat.{◌-◌, ◌≤◌}
use native.Mathlib.Omega.{arith}
use lib.IntN.{ℤ, pos, nat_abs}
use lib.ListN.{get_or}
use mir.Syntax.{w64}
use mir.Val.{to_z, of_z}
use mir.Facts.{to_z-of_z}
use Rattle.exact.specs.Table.{entry_of}
use Rattle.long_theory.specs.Long.{digit_of}
use Rattle.long_levels.specs.Levels.{LevelTable, Splits, level_f}
use Rattle.long_levels.proofs.Levelling.{level-start, level-turn, level-end, level-room, level-digits, level-f, small-back}
use Rattle.long_levels.proofs.f_levels.Goals as goal

pub loop-k-init : goal.loop-k-init
loop-k-init c = (level-start _ _ _ c.filled-sums.ensures.throughout, omega arith)

pub bounds-d-k : goal.bounds-d-k
bounds-d-k c = omega (arith, c.requires.levels_le_max_levels.1, c.loop-k-test.true)

pub offset_bounds-digits-at : goal.offset_bounds-digits-at
offset_bounds-digits-at c = let l = c.loop-k in omega (arith, level-room c.args.edges c.args.levels c.args.digits.now c.requires.levels_le_max_levels.2 c.requires.by_index.1 l.k l.at c.loop-k-test.true l.invariant.1)

pub slice_bounds-level_f-count : goal.slice_bounds-level_f-count
slice_bounds-level_f-count c = let l = c.loop-k in omega (arith, level-room c.args.edges c.args.levels c.args.digits.now c.requires.levels_le_max_levels.2 c.requires.by_index.1 l.k l.at c.loop-k-test.true l.invariant.1)

pub slice_bounds-level_f-start : goal.slice_bounds-level_f-start
slice_bounds-level_f-start c = let l = c.loop-k in omega (arith, level-room c.args.edges c.args.levels c.args.digits.now c.requires.levels_le_max_levels.2 c.requires.by_index.1 l.k l.at c.loop-k-test.true l.invariant.1)

pub level_f-requires : goal.level_f-requires
level_f-requires c = let l = c.loop-k in
    record {
      splits = subst (λ (q : ℤ). Splits c.args.edges q c.args.splits.now) (sym (to_z-of_z c.ranges.squares)) c.requires.splits;
      d_lt_base = (c.requires.by_index.0 l.k, level-digits c.args.edges c.args.levels c.args.digits.now c.requires.levels_le_max_levels.2 c.requires.by_index.1 l.k l.at c.loop-k-test.true l.invariant.1);
    }

pub bounds-sums-k : goal.bounds-sums-k
bounds-sums-k c = omega (arith, c.loop-k-test.true, c.requires.levels_le_max_levels.0)

pub overflow_add-at : goal.overflow_add-at
overflow_add-at c = let l = c.loop-k in omega (arith, level-room c.args.edges c.args.levels c.args.digits.now c.requires.levels_le_max_levels.2 c.requires.by_index.1 l.k l.at c.loop-k-test.true l.invariant.1)

pub loop-k-preserved : goal.loop-k-preserved
loop-k-preserved c = let l = c.loop-k in let t = c.loop-k-test.true in
    let e = c.level_f.ensures.0 ∙ level-f c.args.edges c.args.levels c.args.digits.now c.requires.levels_le_max_levels.2 c.requires.by_index.1 l.k l.at (t) l.invariant.1 (to_z w64 (of_z w64 c.args.squares)) (entry_of c.args.splits.now) (pos (get_or c.args.d.now l.k 0)) in
    let near : nat_abs (level_f c.args.edges (to_z w64 (of_z w64 c.args.squares)) (entry_of c.args.splits.now) (pos (get_or c.args.d.now l.k 0)) (digit_of c.args.edges c.args.digits.now l.k)) ≤ 9000000000000000000 = omega (arith, ap nat_abs (sym e), c.level_f.ensures.1) in
    (level-turn _ _ c.requires.levels_le_max_levels.0 l.k l.sums _ t (small-back _ _ e near) near l.invariant.0, omega (arith, l.invariant.1))

pub returns : goal.returns
returns c = subst (λ (q : ℤ). LevelTable c.args.levels (λ i. level_f c.args.edges q (entry_of c.args.splits.now) (pos (get_or c.args.d.now i 0)) (digit_of c.args.edges c.args.digits.now i)) c.loop-k.sums) (to_z-of_z c.ranges.squares)
    (level-end _ _ c.loop-k.k c.loop-k.sums c.loop-k-test.false c.loop-k.invariant.0)
