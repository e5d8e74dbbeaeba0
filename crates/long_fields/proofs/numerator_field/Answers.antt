-- The sign by a comparison with 0, then the digits without it.
use borrow.Author.Rules.{rules}
use native.Mathlib.Omega.{arith}
use Rattle.long_sums.proofs.Filling.{stored}
use Rattle.long_fields.proofs.Numbers.{row_of, edge_of, numerator-wrote}
use Rattle.long_fields.proofs.numerator_field.Goals as goal

pub compare-sign-requires : goal.compare-sign-requires
compare-sign-requires c = record {
  long_edge = edge_of c.requires.long_proper _ c.requires.v_lt_edges.0;
  b_bound = search rules;
}

pub magnitudes-held-requires : goal.magnitudes-held-requires
magnitudes-held-requires c = record {
  long_row = row_of c.requires.long_proper _ c.requires.v_lt_edges.0;
  levels_le_max_levels = (c.requires.long_proper.most, c.requires.long_proper.tops);
}

pub field-requires : goal.field-requires
field-requires c = record {
  levels_le_wide_size = (omega (arith, c.requires.long_proper.most), omega (arith, c.magnitudes-held.ensures.size, c.requires.long_proper.most), c.requires.v_lt_edges.1);
  by_index = c.magnitudes-held.ensures.small;
}

pub returns : goal.returns
returns c = numerator-wrote c.requires.long_proper _ c.requires.v_lt_edges.0 c.magnitudes-held.ensures (stored _ _ c.compare-sign.ensures) c.field.ensures
