-- One digit a turn, over what was there.
use mathlib.Core.Path.{◌∙◌}
use Prim.Native.Nat.{◌-◌}
use native.Mathlib.Omega.{arith}
use lib.IntN.{pos}
use mir.Facts.{to_z-of_z}
use Rattle.long_decoding.proofs.Into.{write_start, write_turn, write_end}
use mir.Syntax.{w64}
use Rattle.long_decoding.proofs.digits_into.Goals as goal

pub loop-k-init : goal.loop-k-init
loop-k-init c = write_start (pos 0) _ _ _

pub offset_bounds-into-k : goal.offset_bounds-into-k
offset_bounds-into-k c = record { fits = omega (arith, c.loop-k.invariant.size) }

pub bounds-into-k : goal.bounds-into-k
bounds-into-k c = omega (arith, c.loop-k.invariant.size)

pub loop-k-preserved : goal.loop-k-preserved
loop-k-preserved c = write_turn (pos 0) _ _ _ c.loop-k.k _ _ (omega arith) (omega arith) (to_z-of_z {w = w64} (record { sfits = c.i32_at-x.type_inv }) ∙ c.i32_at-x.ensures) c.loop-k.invariant

pub shape_of-into : goal.shape_of-into
shape_of-into c = c.loop-k.invariant.size

pub returns : goal.returns
returns c = write_end (pos 0) _ _ _ (omega arith) c.loop-k.k _ (omega arith) c.loop-k.invariant
