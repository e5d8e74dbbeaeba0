-- The word, three fields and the line's end.
use native.Mathlib.Omega.{arith}
use mathlib.Core.Path.{ap}
use lib.IntN.{ℤ, pos}
use lib.ListN.{length}
use Rattle.lines.specs.Lines.{edge_word}
use Rattle.long_writing.specs.Decimals.{long_signed}
use mir.Facts.{to_z-of_z}
use Rattle.exact.proofs.Sign.{back-pos, fits_abs}
use Rattle.long_fields.proofs.Numbers.{numerator-length, short-length, pos-length, three-wrote}
use Rattle.long_fields.proofs.edge_line.Goals as goal

pub overflow_cast-v : goal.overflow_cast-v
overflow_cast-v c = fits_abs _ (omega arith)

pub numerator_field-next-requires : goal.numerator_field-next-requires
numerator_field-next-requires c = record {
  v_lt_edges = (c.requires.v_lt_edges.0, omega (arith, c.requires.v_lt_edges.1, c.short_field-next.ensures.place, c.put_word-next.ensures.place, pos-length c.args.v (omega (arith, c.requires.v_lt_edges.0, c.requires.long_proper.few))));
  long_proper = c.requires.long_proper;
}

pub short_field-next-requires-2 : goal.short_field-next-requires-2
short_field-next-requires-2 c = omega (arith, c.requires.v_lt_edges.1, c.numerator_field-next.ensures.place, c.short_field-next.ensures.place, c.put_word-next.ensures.place, pos-length c.args.v (omega (arith, c.requires.v_lt_edges.0, c.requires.long_proper.few)), numerator-length c.requires.long_proper c.args.v c.requires.v_lt_edges.0)

pub put-requires : goal.put-requires
put-requires c = omega (arith, c.requires.v_lt_edges.1, c.short_field-next-2.ensures.place, c.numerator_field-next.ensures.place, c.short_field-next.ensures.place, c.put_word-next.ensures.place, pos-length c.args.v (omega (arith, c.requires.v_lt_edges.0, c.requires.long_proper.few)), numerator-length c.requires.long_proper c.args.v c.requires.v_lt_edges.0, ap (λ (z : ℤ). length (long_signed z)) (to_z-of_z c.ranges.m), short-length c.args.m c.ranges.m)

pub returns : goal.returns
returns c = let v = back-pos c.args.v (omega (arith, c.requires.v_lt_edges.0, c.requires.long_proper.few)) in let m = to_z-of_z c.ranges.m in
    three-wrote edge_word (pos c.args.v) _ c.args.m (omega (arith, c.requires.v_lt_edges.1, short-length (pos c.args.v) (fits_abs (pos c.args.v) (omega (arith, c.requires.v_lt_edges.0, c.requires.long_proper.few))), numerator-length c.requires.long_proper c.args.v c.requires.v_lt_edges.0, short-length c.args.m c.ranges.m))
    c.put_word-next.ensures (simp v at c.short_field-next.ensures) c.numerator_field-next.ensures (simp m at c.short_field-next-2.ensures) c.put.ensures
