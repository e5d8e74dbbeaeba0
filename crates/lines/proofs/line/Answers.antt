-- The word leaves room for the numbers, and the numbers for the line's end.
use native.Mathlib.Omega.{arith}
use Rattle.lines.proofs.Pieces.{and_then}
use Rattle.lines.proofs.Sizes.{fields-length, line-length}
use Rattle.lines.proofs.line.Goals as goal

pub put-requires : goal.put-requires
put-requires c = let a = c.args in
    omega (arith, c.fields-end.ensures.place, c.put_word-numbers.ensures.place, fields-length a.values.now)

pub returns : goal.returns
returns c = let a = c.args in
    and_then (omega (arith, line-length a.word.now a.values.now)) c.put_word-numbers.ensures
    (λ r. and_then r c.fields-end.ensures (λ _. c.put.ensures))
