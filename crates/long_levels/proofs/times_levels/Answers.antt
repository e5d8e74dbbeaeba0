-- One level a turn.
use Prim.Native.Nat.{◌-◌}
use native.Mathlib.Omega.{arith}
use lib.ListN.{get_or}
use Rattle.long_levels.proofs.Levelling.{level-start, level-turn, level-end, product-near, product-fits, product_is, digit-fits}
use Rattle.long_levels.proofs.times_levels.Goals as goal

pub loop-k-init : goal.loop-k-init
loop-k-init c = level-start _ _ _ c.filled-products.ensures.throughout

pub overflow_cast-products : goal.overflow_cast-products
overflow_cast-products c = digit-fits _ (c.requires.by_index c.loop-k.k)

pub overflow_mul-products : goal.overflow_mul-products
overflow_mul-products c = let l = c.loop-k in product-fits (get_or c.args.d.now l.k 0) c.args.count (c.requires.by_index l.k) c.requires.levels_le_max_levels.2

pub loop-k-preserved : goal.loop-k-preserved
loop-k-preserved c = let l = c.loop-k in level-turn _ _ c.requires.levels_le_max_levels.0 l.k l.products _ c.loop-k-test.true (product_is (get_or c.args.d.now l.k 0) c.args.count (c.requires.by_index l.k) c.requires.levels_le_max_levels.2) (omega (arith, product-near (get_or c.args.d.now l.k 0) c.args.count (c.requires.by_index l.k) c.requires.levels_le_max_levels.2)) l.invariant

pub returns : goal.returns
returns c = level-end _ _ c.loop-k.k c.loop-k.products c.loop-k-test.false c.loop-k.invariant
