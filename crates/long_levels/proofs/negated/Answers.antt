-- One level a turn.
use Prim.Native.Nat.{◌-◌}
use native.Mathlib.Omega.{arith}
use Rattle.exact.specs.Table.{entry_of}
use Rattle.long_levels.proofs.Levelling.{level-start, level-turn, level-end, other_fits, other-is, other-within}
use Rattle.long_levels.proofs.negated.Goals as goal

pub loop-k-init : goal.loop-k-init
loop-k-init c = level-start _ _ _ c.filled-others.ensures.throughout

pub overflow_sub-others : goal.overflow_sub-others
overflow_sub-others c = let l = c.loop-k in other_fits (entry_of c.args.f.now l.k) (c.requires.by_index l.k c.loop-k-test.true)

pub bounds-others-k : goal.bounds-others-k
bounds-others-k c = omega (arith, c.loop-k-test.true, c.requires.levels_le_max_levels.0)

pub loop-k-preserved : goal.loop-k-preserved
loop-k-preserved c = let l = c.loop-k in let h = (c.requires.by_index l.k c.loop-k-test.true) in
    level-turn _ _ c.requires.levels_le_max_levels.0 l.k l.others _ c.loop-k-test.true (other-is (entry_of c.args.f.now l.k) h) (other-within (entry_of c.args.f.now l.k) h) l.invariant

pub returns : goal.returns
returns c = level-end _ _ c.loop-k.k c.loop-k.others c.loop-k-test.false c.loop-k.invariant
