-- The word, three fields and the line's end.
use mathlib.Core.Path.{ap}
use native.Mathlib.Omega.{arith}
use lib.IntN.{ℤ}
use lib.ListN.{length}
use mir.Facts.{to_z-of_z}
use Rattle.lines.specs.Lines.{square_word}
use Rattle.long_writing.specs.Decimals.{long_signed}
use Rattle.long_fields.proofs.Numbers.{short-length, three-wrote}
use Rattle.long_lines.proofs.Lines.{digits-length}
use Rattle.long_lines.proofs.square_line.Goals as goal

pub field-next-requires : goal.field-next-requires
field-next-requires c = record {
  levels_le_wide_size = (c.requires.digits.most, c.requires.digits.there, omega (arith, c.requires.room, c.put_word-next.ensures.place));
  by_index = c.requires.digits.small;
}

pub short_field-next-requires : goal.short_field-next-requires
short_field-next-requires c = omega (arith, c.requires.room, c.field-next.ensures.place, digits-length c.requires.digits, c.put_word-next.ensures.place)

pub short_field-next-requires-2 : goal.short_field-next-requires-2
short_field-next-requires-2 c = omega (arith, c.requires.room, c.short_field-next.ensures.place, ap (λ (z : ℤ). length (long_signed z)) (to_z-of_z c.ranges.r), short-length c.args.r c.ranges.r, c.field-next.ensures.place, digits-length c.requires.digits, c.put_word-next.ensures.place)

pub put-requires : goal.put-requires
put-requires c = omega (arith, c.requires.room, c.short_field-next-2.ensures.place, ap (λ (z : ℤ). length (long_signed z)) (to_z-of_z c.ranges.h), short-length c.args.h c.ranges.h, c.short_field-next.ensures.place, ap (λ (z : ℤ). length (long_signed z)) (to_z-of_z c.ranges.r), short-length c.args.r c.ranges.r, c.field-next.ensures.place, digits-length c.requires.digits, c.put_word-next.ensures.place)

pub returns : goal.returns
returns c = let r = to_z-of_z c.ranges.r in let h = to_z-of_z c.ranges.h in
    three-wrote square_word _ c.args.r c.args.h (omega (arith, c.requires.room, digits-length c.requires.digits, short-length c.args.r c.ranges.r, short-length c.args.h c.ranges.h))
    c.put_word-next.ensures c.field-next.ensures (simp r at c.short_field-next.ensures) (simp h at c.short_field-next-2.ensures) c.put.ensures
