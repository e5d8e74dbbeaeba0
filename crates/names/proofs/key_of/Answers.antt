-- The key so far, with the bytes that are left behind it, is the key of all.
use mathlib.Core.Path.{refl}
use native.Mathlib.Omega.{arith}
use Rattle.names.proofs.Keys.{key_turn, key_end}
use Rattle.names.proofs.key_of.Goals as goal

pub loop-byte-init : goal.loop-byte-init
loop-byte-init c = (omega arith, omega arith, refl)

pub overflow_mul-key : goal.overflow_mul-key
overflow_mul-key c = record { fits = omega (arith, c.loop-byte.invariant.1) }

pub overflow_add-key : goal.overflow_add-key
overflow_add-key c = record { fits = omega (arith, c.loop-byte.invariant.1) }

pub loop-byte-preserved : goal.loop-byte-preserved
loop-byte-preserved c = (omega arith, omega arith, key_turn c.args.bytes.now c.loop-byte.key c.loop-byte.byte-index c.loop-byte-test.true c.loop-byte.invariant.2)

pub returns : goal.returns
returns c = (key_end c.args.bytes.now c.loop-byte.key c.loop-byte.byte-index c.loop-byte-test.false c.loop-byte.invariant.2, c.loop-byte.invariant.1)
