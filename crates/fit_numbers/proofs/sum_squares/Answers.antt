-- Where no pair is missing the edges give the sums over the table, which are those over the measured pairs.
use mathlib.Core.Path.{sym, ◌∙◌}
use lib.IntN.{pos}
use Rattle.exact.specs.Table.{entry_of}
use Rattle.matrix.specs.Place.{Complete}
use Rattle.edge_numbers.proofs.Complete.{table-x, table-h}
use Rattle.fit_numbers.proofs.Whole.{splittable, r-whole, h-all}
use Rattle.fit_numbers.proofs.sum_squares.Goals as goal
use Rattle.fit_numbers.proofs.sum_squares.Goals.{Else-some_missing}

all : (c : Else-some_missing) → Complete c.args.distances.now
all c = sym c.some_missing.ensures ∙ c.if-some_missing.false

pub square_sums-requires : goal.square_sums-requires
square_sums-requires c = let w = c.requires.summable in
    record {
      splittable = splittable w (all c);
      lengthened = w.lengthened;
      fits63 = r-whole w (all c) c.requires.fits63;
      fits63_2 = h-all w;
    }

pub returns : goal.returns
returns c = let a = c.args in
    let s = c.square_sums in record {
      r_value = s.ensures.r_value ∙ sym (table-x a.distances.now a.parents.now (all (goal.at.returns c).Else-some_missing) a.n a.edges (pos 1000) (entry_of a.lengths.now));
      h_value = s.ensures.h_value ∙ sym (table-h a.distances.now a.parents.now (all (goal.at.returns c).Else-some_missing) a.n a.edges);
    }
