-- Where no pair is missing the edges give the sums over the table, which are those over the measured pairs.
use borrow.Author.Rules.{rules}
use mathlib.Core.Bool.{false}
use mathlib.Core.Path.{◌≡◌, sym, ◌∙◌}
use lib.IntN.{pos}
use Rattle.exact.specs.Table.{entry_of}
use Rattle.matrix.specs.Place.{Complete}
use Rattle.edge_numbers.proofs.Complete.{table-f, table-x, table-h}
use Rattle.fit_numbers.proofs.Whole.{splittable, f-whole, r-whole, h-all}
use Rattle.fit_numbers.proofs.figures.Goals as goal

pub numbers-requires : goal.numbers-requires
numbers-requires c = let w = c.requires.summable in
    let none : c.some_missing-missing.result ≡ false = search rules in
    let all : Complete c.args.distances.now = sym c.some_missing-missing.ensures ∙ none in
    record {
      splittable = splittable w all;
      edges_in_bounds = (w.lengthened.small.room, w.most);
      lengthened = c.requires.summable_2.lengthened;
      fits63 = f-whole w all c.requires.fits63;
      fits63_2 = r-whole c.requires.summable_2 all c.requires.fits63_2;
      fits63_3 = h-all w;
    }

pub returns : goal.returns
returns c = let a = c.args in
    let s = c.numbers in
    let none : c.some_missing-missing.result ≡ false = search rules in
    let all : Complete a.distances.now = sym c.some_missing-missing.ensures ∙ none in
    record {
      f_value = s.ensures.f_value ∙ sym (table-f a.distances.now a.parents.now all a.n a.edges (pos a.d) (entry_of a.numerators.now));
      r_value = s.ensures.r_value ∙ sym (table-x a.distances.now a.parents.now all a.n a.edges (pos 1000) (entry_of a.lengths.now));
      h_value = s.ensures.h_value ∙ sym (table-h a.distances.now a.parents.now all a.n a.edges);
    }
