-- What is read, with the digits that are left behind it, is the whole number, both cut.
use mathlib.Core.Path.{refl}
use Prim.Native.Nat.{◌-◌}
use native.Mathlib.Omega.{arith}
use Rattle.digits.proofs.Reading.{number-turn, number-end}
use Rattle.digits.proofs.number.Goals as goal

pub loop-k-init : goal.loop-k-init
loop-k-init c = (c.requires.0, c.requires.2, refl)

pub loop-k-preserved : goal.loop-k-preserved
loop-k-preserved c = (omega arith, c.longer-all.ensures.1, number-turn c.args.text.now c.args.number c.args.from c.args.to c.requires.1 c.loop-k.k c.loop-k.all c.longer-all.result c.loop-k-test.true c.longer-all.ensures.0 c.loop-k.invariant.2)

pub returns : goal.returns
returns c = (number-end c.args.text.now c.args.number c.args.from c.args.to c.requires.1 c.loop-k.k c.loop-k.all c.loop-k.invariant.0 c.loop-k-test.false c.loop-k.invariant.1 c.loop-k.invariant.2, c.loop-k.invariant.1)
