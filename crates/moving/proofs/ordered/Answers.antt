-- Whichever is lower goes first.
use mathlib.Core.Path.{refl}
use mathlib.Core.Logic.{inl, inr}
use native.Mathlib.Omega.{arith}
use Rattle.moving.proofs.ordered.Goals as goal

pub returns-then-a-b : goal.returns-then-a-b
returns-then-a-b c = record { rising = c.if-a-b.true; same = inl (refl, refl) }

pub returns : goal.returns
returns c = record { rising = omega arith; same = inr (refl, refl) }
