-- A zero a turn; what is read, with the zeros that are left, is the whole number, both cut.
use Prim.Native.Nat.{◌-◌}
use lib.ListN.{replicate}
use Rattle.digits.specs.Digits.{at_most, number_from}
use Rattle.cells.proofs.Units.{scale-turn, scale-end}
use Rattle.cells.proofs.scaled.Goals as goal

pub loop-k-preserved : goal.loop-k-preserved
loop-k-preserved c = (c.longer-all.ensures.1, scale-turn c.loop-k.k c.loop-k.all c.longer-all.result (at_most (number_from c.args.number (replicate (4 - c.args.places) 48))) c.loop-k-test.true c.longer-all.ensures.0 c.loop-k.invariant.1)

pub returns : goal.returns
returns c = (scale-end c.loop-k.k c.loop-k.all (at_most (number_from c.args.number (replicate (4 - c.args.places) 48))) c.loop-k-test.false c.loop-k.invariant.0 c.loop-k.invariant.1, c.loop-k.invariant.0)
