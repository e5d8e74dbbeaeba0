use Prim.Native.Nat.{◌-◌}
use native.Mathlib.Omega.{arith}
use Rattle.long_rounding.proofs.Searching.{search_start, search_end, turn-down, turn_up, bits}
use Rattle.long_rounding.proofs.greatest.Goals as goal

pub loop-low-init : goal.loop-low-init
loop-low-init c = search_start _ _ c.requires.long_near.one c.requires.long_near.near

pub overflow_add-low : goal.overflow_add-low
overflow_add-low c = omega (arith, c.loop-low.invariant.apart, c.loop-low.invariant.most)

pub overflow_sub-mid : goal.overflow_sub-mid
overflow_sub-mid c = omega (arith, c.loop-low.invariant.apart)

pub overflow_add-mid : goal.overflow_add-mid
overflow_add-mid c = omega (arith, c.loop-low.invariant.apart, c.loop-low.invariant.most)

pub reach-requires : goal.reach-requires
reach-requires c = record {
  long_edge = c.requires.long_edge;
  u_bound = omega (arith, c.loop-low.invariant.apart, c.loop-low.invariant.most);
}

pub loop-low-smaller-then-reach-lt0 : goal.loop-low-smaller-then-reach-lt0
loop-low-smaller-then-reach-lt0 c = omega (arith, c.loop-low.invariant.apart, c.loop-low-test.true)

pub loop-low-preserved-then-reach-lt0 : goal.loop-low-preserved-then-reach-lt0
loop-low-preserved-then-reach-lt0 c = let t = c.loop-low-test.true in
    turn-down _ _ c.loop-low.low c.loop-low.high _ _ (omega (arith, t)) (omega (arith, t)) (bits _ _ c.reach.ensures) c.if-reach-lt0.true c.loop-low.invariant

pub loop-low-smaller : goal.loop-low-smaller
loop-low-smaller c = omega (arith, c.loop-low.invariant.apart, c.loop-low-test.true)

pub loop-low-preserved : goal.loop-low-preserved
loop-low-preserved c = let t = c.loop-low-test.true in
    turn_up _ _ c.loop-low.low c.loop-low.high _ _ (omega (arith, t)) (omega (arith, t)) (bits _ _ c.reach.ensures) c.if-reach-lt0.false c.loop-low.invariant

pub returns : goal.returns
returns c = search_end _ _ _ _ c.loop-low-test.false c.loop-low.invariant
