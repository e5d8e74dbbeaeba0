-- The first line, and behind it the rows by the tables that were made: the rounded lengths, the starts of the names.
use native.Mathlib.Omega.{arith}
use lib.ListN.{length}
use Rattle.exact.proofs.Sign.{back-pos}
use Rattle.pairs.proofs.Lent.{in_range}
use Rattle.names.specs.Record.{name_of}
use Rattle.pair_lines.proofs.Whole.{edges_few, exactly, nearly, name-there, word-is, text-written, rows-room}
use Rattle.pair_lines.proofs.pairs_text.Goals as goal

pub rounded-rounded-requires : goal.rounded-rounded-requires
rounded-rounded-requires c = let a = c.args in record {
  edges_le_max_edges = (edges_few a.n a.distances.now a.parents.now a.d a.numerators.now c.requires.stands, c.requires.stands.lengths.one);
  in_range = in_range c.requires.stands.lengths;
}

pub all_rows-requires : goal.all_rows-requires
all_rows-requires c = let a = c.args in record {
  distances_len = c.requires.stands.fitted.posted.matrix.whole;
  lengthened = exactly a.n a.distances.now a.parents.now a.d a.numerators.now c.requires.stands;
  lengthened_2 = nearly a.n a.distances.now a.parents.now a.d a.numerators.now c.requires.stands _ c.rounded-rounded.ensures;
  by_index = name-there a.names.now a.from a.n c.requires.names_from _ c.name_starts-starts.ensures;
  n_in_bounds = rows-room a.n a.distances.now a.parents.now a.d a.numerators.now c.requires.stands c.requires.pairs_page_in_bounds (simp (back-pos a.n (omega arith), back-pos (length a.parents.now) (omega (arith, edges_few a.n a.distances.now a.parents.now a.d a.numerators.now c.requires.stands)), back-pos a.d (omega arith)) at c.line-next.ensures);
}

pub returns : goal.returns
returns c = let a = c.args in text-written a.n a.distances.now a.parents.now a.d a.numerators.now c.requires.stands _ c.rounded-rounded.ensures _ (name_of a.names.now a.from) (word-is a.names.now a.from a.n c.requires.names_from _ c.name_starts-starts.ensures) c.requires.pairs_page_in_bounds (simp (back-pos a.n (omega arith), back-pos (length a.parents.now) (omega (arith, edges_few a.n a.distances.now a.parents.now a.d a.numerators.now c.requires.stands)), back-pos a.d (omega arith)) at c.line-next.ensures) c.all_rows.ensures
