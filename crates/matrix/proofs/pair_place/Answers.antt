-- `pair_place`: the lower strain first.
use mathlib.Core.Path.{◌∙◌, sym}
use native.Mathlib.Omega.{arith}
use Rattle.matrix.proofs.Places.{pair-place-up, pair-place-down}
use Rattle.matrix.proofs.pair_place.Goals as goal

pub returns-then-i-j : goal.returns-then-i-j
returns-then-i-j c = let a = c.args in c.place.ensures ∙ sym (pair-place-up a.i a.j (omega arith))

pub returns : goal.returns
returns c = let a = c.args in c.place-2.ensures ∙ sym (pair-place-down a.i a.j (omega arith))
