-- The array is filled from the front; past the numerators it keeps its zeros.
use native.Mathlib.Omega.{arith}
use Rattle.tree_theory.specs.Limits.{max_edges}
use Rattle.records.proofs.Decoding.{decode_start, decode_turn, decode_end}
use mathlib.Core.Path.{◌∙◌}
use lib.IntN.{pos}
use mir.Facts.{to_z-of_z}
use mir.Syntax.{w64}
use Rattle.decoding.proofs.numerators_into.Goals as goal

pub loop-k-init : goal.loop-k-init
loop-k-init c = decode_start (pos 0) max_edges _ _ _ c.requires.held_value

pub loop-k-preserved : goal.loop-k-preserved
loop-k-preserved c = decode_turn (pos 0) max_edges _ _ c.loop-k.k _ _ (omega arith) (omega arith) (to_z-of_z {w = w64} (record { sfits = c.i64_at-x.type_inv }) ∙ c.i64_at-x.ensures) c.loop-k.invariant

pub returns : goal.returns
returns c = decode_end (pos 0) max_edges _ _ c.loop-k.k _ (omega arith) (omega arith) c.loop-k.invariant
