-- The numbers are names like any others.
use Rattle.pair_lines.proofs.Numbered.{numbers_from, by_numbers}
use Rattle.pair_lines.proofs.numbered_pairs.Goals as goal

pub pairs_text-requires : goal.pairs_text-requires
pairs_text-requires c = record {
  stands = c.requires.stands;
  names_from = numbers_from c.args.n c.requires.stands.fitted.posted.matrix.few _ c.numbers-names.ensures;
  pairs_page_in_bounds = c.requires.pairs_page_in_bounds;
}

pub returns : goal.returns
returns c = let a = c.args in by_numbers a.n a.distances.now a.parents.now a.d a.numerators.now c.requires.stands.fitted.posted.matrix.few _ c.numbers-names.ensures c.pairs_text.ensures
