-- Below v the table is rounded, and from v on it is still zero.
use Prim.Native.Nat.{◌-◌}
use native.Mathlib.Omega.{arith}
use Rattle.fit_numbers.proofs.Written.{written_start, written-turn, written-end, entry-small, rounded-back}
use Rattle.fit_numbers.proofs.rounded.Goals as goal

pub loop-v-init : goal.loop-v-init
loop-v-init c = written_start _ _ _ _ c.filled-lengths.ensures.throughout

pub thousandths-requires : goal.thousandths-requires
thousandths-requires c = (entry-small c.requires.in_range c.loop-v.v (omega arith), c.requires.edges_le_max_edges.1)

pub loop-v-preserved : goal.loop-v-preserved
loop-v-preserved c = written-turn _ _ _ c.loop-v.v _ _ (omega arith) c.requires.edges_le_max_edges.0 (rounded-back c.requires.in_range c.loop-v.v (omega arith) c.args.d c.thousandths.result c.requires.edges_le_max_edges.1 c.thousandths.ensures) c.loop-v.invariant

pub returns : goal.returns
returns c = written-end _ _ _ c.loop-v.v _ (omega arith) c.loop-v.invariant
