-- The run is taken word by word, until one is no number or the line ends.
use mathlib.Core.Path.{sym}
use native.Mathlib.Omega.{arith}
use Rattle.desk_text.specs.Words.{is_number}
use Rattle.desk_words.proofs.Taking.{going_room, going_on, going_end, words-next, further, no_number, cut-value}
use Rattle.desk_words.proofs.numbers.Goals as goal

pub bounds-into-count : goal.bounds-into-count
bounds-into-count c = going_room is_number _ _ _ _ no_number _ _ _ c.loop-next.invariant (sym c.in-Ok.ensures.found-is)

pub loop-next-smaller : goal.loop-next-smaller
loop-next-smaller c = let h = further _ _ _ _ c.in-Ok.ensures.read is_number no_number (sym c.in-Ok.ensures.found-is) in omega (arith, h, c.in-Ok.ensures.read.within)

pub loop-next-preserved : goal.loop-next-preserved
loop-next-preserved c = let r = c.in-Ok.ensures in
    going_on is_number _ _ _ _ no_number _ _ _ c.loop-next.invariant _ _ (sym r.found-is) (cut-value c.args.most c.args.above _ _ _ (let h = c.ranges.most.fits in omega (arith, h)) r.read.value-is c.field.ensures) (words-next _ _ _ _ r.read) r.read.within

pub returns : goal.returns
returns c = going_end is_number _ _ _ _ no_number _ _ _ c.loop-next.invariant (sym c.in_default.ensures.found-is)
