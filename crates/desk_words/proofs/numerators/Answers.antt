-- The run is taken word by word, until one is no numerator or the line ends.
use mathlib.Core.Path.{sym}
use native.Mathlib.Omega.{arith}
use Rattle.desk_text.specs.Words.{is_signed}
use Rattle.desk_words.proofs.Taking.{going_room, going_on, going_end, words-next, further, no_signed, stored}
use Rattle.desk_words.proofs.numerators.Goals as goal

pub bounds-into-count : goal.bounds-into-count
bounds-into-count c = going_room is_signed _ _ _ _ no_signed _ _ _ c.loop-next.invariant (sym c.in-Ok.ensures.found-is)

pub loop-next-smaller : goal.loop-next-smaller
loop-next-smaller c = let h = further _ _ _ _ c.in-Ok.ensures.read is_signed no_signed (sym c.in-Ok.ensures.found-is) in omega (arith, h, c.in-Ok.ensures.read.within)

pub loop-next-preserved : goal.loop-next-preserved
loop-next-preserved c = let r = c.in-Ok.ensures in
    going_on is_signed _ _ _ _ no_signed _ _ _ c.loop-next.invariant _ _ (sym r.found-is) (stored _ _ r.read.value-is) (words-next _ _ _ _ r.read) r.read.within

pub returns : goal.returns
returns c = going_end is_signed _ _ _ _ no_signed _ _ _ c.loop-next.invariant (sym c.in_default.ensures.found-is)
