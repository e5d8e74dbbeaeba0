-- N, then numbers as long as there are any.
use native.Mathlib.Omega.{arith}
use Rattle.desk_text.specs.Words.{is_number}
use Rattle.desk_words.proofs.Reading.{number_found}
use Rattle.desk_posts.proofs.Lining.{room, taken-front, taken-few, front-some}
use Rattle.desk_posts.proofs.distances_of.Goals as goal

pub numbers-taken-requires : goal.numbers-taken-requires
numbers-taken-requires c = let p = c.requires in let h = number_found _ _ _ _ c.number_at.ensures c.in_ok-n.ensures.value in
    (h.read.within, let n = room c.args.line.now c.in_ok-n.n.end p.1 in omega (arith, n, p.2))

pub lay_distances-requires : goal.lay_distances-requires
lay_distances-requires c = let t = c.numbers-taken.ensures in let n = taken-front is_number _ _ _ _ _ _ t in let m = taken-few is_number _ _ _ _ _ _ t c.requires.1 in (omega (arith, n, m, c.requires.3), omega (arith, n, m))

pub returns : goal.returns
returns c = let h = number_found _ _ _ _ c.number_at.ensures c.in_ok-n.ensures.value in
    let t = c.numbers-taken.ensures in let m = taken-few is_number _ _ _ _ _ _ t c.requires.1 in
    front-some _ _ _ h _ c.word-strains.ensures _ _ _ t _ _ c.lay_distances.ensures (omega (arith, m, c.requires.3))
