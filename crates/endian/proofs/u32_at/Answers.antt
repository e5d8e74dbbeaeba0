-- Two bytes and two behind them: `number-join`.
use native.Mathlib.Omega.{arith}
use Rattle.endian.proofs.Numbers.{number-join}
use Rattle.endian.proofs.u32_at.Goals as goal

pub returns : goal.returns
returns c = omega (arith, number-join 2 2 c.args.s.now c.args.at)
