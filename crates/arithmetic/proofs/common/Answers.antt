-- Euclid: each turn keeps what goes into both numbers, and the second number falls.
use Rattle.std.proofs.Common.{mod-lt, arith}
use Rattle.exact.proofs.Divisors.{shared_start, shared_step, shared-end}
use Rattle.arithmetic.proofs.common.Goals as goal

pub loop-y-init : goal.loop-y-init
loop-y-init c = shared_start c.args.a c.args.b

pub loop-y-smaller : goal.loop-y-smaller
loop-y-smaller c = mod-lt c.loop-y.x (omega arith)

pub loop-y-preserved : goal.loop-y-preserved
loop-y-preserved c = shared_step c.args.a c.args.b c.loop-y.x c.loop-y.y c.loop-y.invariant

pub returns : goal.returns
returns c = shared-end c.args.a c.args.b c.loop-y.x c.loop-y.y (omega arith) c.loop-y.invariant
