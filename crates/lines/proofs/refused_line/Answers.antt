-- The word and the number leave room for the place, and the place for the line's end.
use mathlib.Core.List.{[], ◌∷◌}
use native.Mathlib.Omega.{arith}
use lib.IntN.{pos}
use Rattle.lines.proofs.Pieces.{and_then}
use Rattle.lines.proofs.Sizes.{fields-length, place-length, refused-widest}
use Rattle.lines.proofs.refused_line.Goals as goal

pub place_fields-last-requires : goal.place_fields-last-requires
place_fields-last-requires c = let a = c.args in omega (arith, c.named-behind.ensures.place, fields-length (pos a.number ∷ []))

pub put-requires : goal.put-requires
put-requires c = let a = c.args in
    omega (arith, c.place_fields-last.ensures.place, place-length a.place, c.named-behind.ensures.place, fields-length (pos a.number ∷ []))

pub returns : goal.returns
returns c = let a = c.args in
    and_then (omega (arith, refused-widest a.number a.place)) c.named-behind.ensures (λ r. and_then r c.place_fields-last.ensures (λ _. c.put.ensures))
