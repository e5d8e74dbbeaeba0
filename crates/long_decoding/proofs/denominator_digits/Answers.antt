-- The array is filled from the front; past the digits it keeps its zeros.
use Prim.Native.Nat.{◌-◌}
use native.Mathlib.Omega.{arith}
use Rattle.records.proofs.Decoding.{decode_start, decode_turn, decode_end}
use Rattle.long_theory.specs.Long.{max_levels}
use Rattle.long_decoding.proofs.denominator_digits.Goals as goal

pub loop-k-init : goal.loop-k-init
loop-k-init c = decode_start 0 max_levels _ _ _ c.filled-held.ensures.throughout

pub loop-k-preserved : goal.loop-k-preserved
loop-k-preserved c = decode_turn 0 max_levels _ _ c.loop-k.k _ _ (omega arith) (omega arith) c.u32_at.ensures c.loop-k.invariant

pub returns : goal.returns
returns c = decode_end 0 max_levels _ _ c.loop-k.k _ (omega arith) (omega arith) c.loop-k.invariant
