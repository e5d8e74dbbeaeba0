-- The slash, then numbers to the end of the line.
use native.Mathlib.Omega.{arith}
use Rattle.desk_text.specs.Words.{is_number}
use Rattle.desk_posts.proofs.Lining.{room, taken-front, taken-few, back_none, back_more, back-bytes, back_some}
use Rattle.desk_posts.proofs.parents_of.Goals as goal

pub returns-then-not-same : goal.returns-then-not-same
returns-then-not-same c = back_none _ _ _ c.word_at-slash.ensures _ c.same.ensures _ (c.if-not-same.true)

pub numbers-taken-requires : goal.numbers-taken-requires
numbers-taken-requires c = let p = c.requires in (c.word_at-slash.ensures.within, let n = room c.args.line.now c.word_at-slash.result.end p.1 in omega (arith, n, p.2))

pub returns-then-not-over : goal.returns-then-not-over
returns-then-not-over c = let t = c.numbers-taken.ensures in
    back_more _ _ _ c.word_at-slash.ensures _ c.same.ensures (c.if-not-same.false) _ _ _ t _ c.over.ensures _ (c.if-not-over.true)

pub lay_parents-requires-clause-numbers_in_bounds : goal.lay_parents-requires-clause-numbers_in_bounds
lay_parents-requires-clause-numbers_in_bounds c = let t = c.numbers-taken.ensures in let n = taken-front is_number _ _ _ _ _ _ t in let m = taken-few is_number _ _ _ _ _ _ t c.requires.1 in omega (arith, n, m, c.requires.3)

pub lay_parents-requires-clause-by_index : goal.lay_parents-requires-clause-by_index
lay_parents-requires-clause-by_index c = back-bytes _ _ _ c.word_at-slash.ensures _ c.same.ensures (c.if-not-same.false) _ _ _ c.numbers-taken.ensures _ c.over.ensures

pub returns : goal.returns
returns c = let t = c.numbers-taken.ensures in let m = taken-few is_number _ _ _ _ _ _ t c.requires.1 in
    back_some _ _ _ c.word_at-slash.ensures _ c.same.ensures (c.if-not-same.false) _ _ _ t _ c.over.ensures _ _ (c.if-not-over.false) c.lay_parents.ensures (omega (arith, m, c.requires.3))
