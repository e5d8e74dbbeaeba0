-- A look at every distance, one turn each.
use mathlib.Core.Path.{refl, ap}
use mathlib.Core.Bool.{Bool, ◌||◌}
use native.Mathlib.Omega.{arith}
use Rattle.matrix.proofs.Looking.{look-start, look-turn, look-end}
use Rattle.matrix.proofs.look.Goals as goal

pub loop-far-init : goal.loop-far-init
loop-far-init c = look-start _

pub loop-far-preserved : goal.loop-far-preserved
loop-far-preserved c = look-turn _ _ _ _ c.loop-far.invariant (omega arith) _ _ (ap (λ (b : Bool). c.loop-far.out || b) c.above-out.ensures) refl

pub returns : goal.returns
returns c = look-end _ _ _ _ c.loop-far.invariant (omega arith)
