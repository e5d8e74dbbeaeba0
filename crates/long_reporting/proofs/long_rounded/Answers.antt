-- Below v the table is rounded, and from v on it is still zero.
use mathlib.Core.Path.{◌∙◌, ap}
use Prim.Native.Nat.{◌-◌}
use native.Mathlib.Omega.{arith}
use lib.IntN.{nat_abs}
use Rattle.exact.proofs.Sign.{back}
use Rattle.long_reporting.proofs.Reporting.{rounding-start, rounding-turn, rounding-end, long-edge, long-near}
use Rattle.long_reporting.proofs.long_rounded.Goals as goal

pub loop-v-init : goal.loop-v-init
loop-v-init c = rounding-start _ _ _ c.filled-lengths.ensures.throughout

pub long_thousandths-requires : goal.long_thousandths-requires
long_thousandths-requires c = record {
  long_edge = long-edge c.requires c.loop-v.v c.loop-v-test.true;
  long_near = long-near c.requires c.loop-v.v c.loop-v-test.true;
}

pub bounds-lengths-v : goal.bounds-lengths-v
bounds-lengths-v c = omega (arith, c.loop-v-test.true, c.requires.few)

pub loop-v-preserved : goal.loop-v-preserved
loop-v-preserved c = let l = c.loop-v in let t = c.long_thousandths in
    rounding-turn _ _ c.requires.few l.v l.lengths _ c.loop-v-test.true (back t.result (omega (arith, t.ensures.1)) ∙ t.ensures.0) (omega (arith, ap nat_abs (back t.result (omega (arith, t.ensures.1))), t.ensures.1)) l.invariant

pub returns : goal.returns
returns c = let it = rounding-end _ _ c.loop-v.v c.loop-v.lengths c.loop-v-test.false c.loop-v.invariant in record {
  edge_table = it.0;
  by_index = it.1;
}
