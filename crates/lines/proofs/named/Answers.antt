-- The word leaves room for the space, and the space for the number.
use native.Mathlib.Omega.{arith}
use Rattle.lines.proofs.Pieces.{wrote-named}
use Rattle.lines.proofs.named.Goals as goal

pub returns : goal.returns
returns c = let a = c.args in
    wrote-named a.word.now a.n (omega arith) c.put_word-space.ensures c.put-number.ensures c.put_number.ensures
