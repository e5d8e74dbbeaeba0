-- The word of the rule, three fields and the line's end.
use native.Mathlib.Omega.{arith}
use lib.IntN.{pos}
use Rattle.exact.proofs.Sign.{back-pos, fits_abs}
use Rattle.lines.specs.Lines.{fit_word}
use Rattle.lines.proofs.Sizes.{word-length}
use Rattle.long_fields.proofs.Numbers.{short-length, pos-length, three-wrote}
use Rattle.long_lines.proofs.Lines.{digits-length}
use Rattle.long_lines.proofs.fit_line.Goals as goal

pub short_field-next-requires : goal.short_field-next-requires
short_field-next-requires c = omega (arith, c.requires.room, c.rule_word-next.ensures.place, word-length c.args.rule)

pub short_field-next-requires-2 : goal.short_field-next-requires-2
short_field-next-requires-2 c = omega (arith, c.requires.room, c.short_field-next.ensures.place, c.rule_word-next.ensures.place, word-length c.args.rule, pos-length c.args.n (omega (arith, c.ranges.n)))

pub field-next-requires : goal.field-next-requires
field-next-requires c = record {
  levels_le_wide_size = (c.requires.k_le_max_edges.1.most, c.requires.k_le_max_edges.1.there, omega (arith, c.requires.room, c.short_field-next-2.ensures.place, c.short_field-next.ensures.place, c.rule_word-next.ensures.place, word-length c.args.rule, pos-length c.args.n (omega (arith, c.ranges.n)), pos-length c.args.k (omega (arith, c.requires.k_le_max_edges.0))));
  by_index = c.requires.k_le_max_edges.1.small;
}

pub put-requires : goal.put-requires
put-requires c = omega (arith, c.requires.room, c.field-next.ensures.place, digits-length c.requires.k_le_max_edges.1, c.short_field-next-2.ensures.place, c.short_field-next.ensures.place, c.rule_word-next.ensures.place, word-length c.args.rule, pos-length c.args.n (omega (arith, c.ranges.n)), pos-length c.args.k (omega (arith, c.requires.k_le_max_edges.0)))

pub returns : goal.returns
returns c = let n = back-pos c.args.n (omega (arith, c.ranges.n)) in let k = back-pos c.args.k (omega (arith, c.requires.k_le_max_edges.0)) in
    three-wrote (fit_word c.args.rule) (pos c.args.n) (pos c.args.k) _ (omega (arith, c.requires.room, word-length c.args.rule, short-length (pos c.args.n) (fits_abs (pos c.args.n) (omega (arith, c.ranges.n))), short-length (pos c.args.k) (fits_abs (pos c.args.k) (omega (arith, c.requires.k_le_max_edges.0))), digits-length c.requires.k_le_max_edges.1))
    c.rule_word-next.ensures (simp n at c.short_field-next.ensures) (simp k at c.short_field-next-2.ensures) c.field-next.ensures c.put.ensures
