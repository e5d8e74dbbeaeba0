-- The word, the number and the line's end.
use native.Mathlib.Omega.{arith}
use Rattle.lines.specs.Lines.{length_word}
use Rattle.long_fields.proofs.Numbers.{one-wrote}
use Rattle.long_lines.proofs.Lines.{by_digits, wide-wrote, wide-length}
use Rattle.long_lines.proofs.length_line.Goals as goal

pub field-next-requires : goal.field-next-requires
field-next-requires c = record {
  levels_le_wide_size = (c.requires.digits.0.most, c.requires.digits.0.there, omega (arith, c.requires.room, c.put_word-next.ensures.place));
  by_index = c.requires.digits.0.small;
}

pub put-requires : goal.put-requires
put-requires c = omega (arith, c.requires.room, c.field-next.ensures.place, by_digits c.args.negative c.requires.digits.0, c.put_word-next.ensures.place)

pub returns : goal.returns
returns c = one-wrote length_word _ (omega (arith, c.requires.room, wide-length c.args.negative c.requires.digits.0 c.requires.digits.1)) c.put_word-next.ensures (wide-wrote c.args.negative _ c.requires.digits.1 c.field-next.ensures) c.put.ensures
