-- Two bytes: `number-two`.
use native.Mathlib.Omega.{arith}
use Rattle.endian.proofs.Numbers.{number-two}
use Rattle.endian.proofs.u16_at.Goals as goal

pub returns : goal.returns
returns c = omega (arith, number-two c.args.s.now c.args.at)
