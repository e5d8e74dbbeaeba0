-- The buffer is filled from the front.
use mathlib.Core.Path.{refl}
use native.Mathlib.Omega.{arith}
use lib.IntN.{pos}
use lib.ListN.{length-set}
use mir.Facts.{to_z-of_z}
use Rattle.exact.proofs.Fill.{fill_none, fill_more, table_is}
use mir.Syntax.{w64}
use Rattle.tables.proofs.copy_out.Goals as goal

pub loop-v-init : goal.loop-v-init
loop-v-init c = (omega arith, c.requires.1, fill_none (pos 0) _ _ _ (λ k. refl))

pub loop-v-preserved : goal.loop-v-preserved
loop-v-preserved c = (omega arith, simp length-set c.loop-v.invariant.1, fill_more (pos 0) _ _ _ _ _ (omega arith) (to_z-of_z {w = w64} (record { sfits = c.to-1.given })) c.loop-v.invariant.2)

pub returns : goal.returns
returns c = table_is (pos 0) _ _ _ c.loop-v.invariant.1 (λ k l. c.loop-v.invariant.2.below k (omega arith))
