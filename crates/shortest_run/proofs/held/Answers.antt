-- The loop fills the table from the front with the bytes of the sheet.
use mathlib.Core.Path.{refl}
use native.Mathlib.Omega.{arith}
use Rattle.records.specs.Form.{max_sheet}
use Rattle.records.proofs.Decoding.{decode_start, decode_turn, decode_end}
use Rattle.shortest_run.proofs.held.Goals as goal

pub loop-k-init : goal.loop-k-init
loop-k-init c = decode_start 0 max_sheet _ _ _ c.filled-bytes.ensures.throughout

pub loop-k-preserved : goal.loop-k-preserved
loop-k-preserved c = decode_turn 0 max_sheet _ _ c.loop-k.k _ _ (omega arith) (omega (arith, c.requires)) refl c.loop-k.invariant

pub returns : goal.returns
returns c = decode_end 0 max_sheet _ _ c.loop-k.k _ (omega arith) (omega (arith, c.requires)) c.loop-k.invariant
