-- R as it is asked to fit, and H, which is small.
use mathlib.Core.Path.{◌∙◌}
use mir.Syntax.{w64}
use mir.Facts.{to_z-of_z}
use Rattle.matrix.specs.Place.{distance}
use Rattle.fit_theory.specs.Quantities.{parts_in}
use Rattle.edge_numbers.proofs.Totals.{fits-of}
use Rattle.fit_numbers.proofs.Squares.{squares-ones, ones-fit, ones-summable}
use Rattle.fit_numbers.proofs.squares_by_pairs.Goals as goal

pub sum_x-requires-2 : goal.sum_x-requires-2
sum_x-requires-2 c = let a = c.args in
    let w = c.requires.summable in
    let e = c.filled-one_each.ensures.throughout in
    record {
      summable = ones-summable _ e w;
      fits63 = ones-fit _ e w (parts_in a.distances.now a.parents.now) (distance a.distances.now);
    }

pub returns : goal.returns
returns c = let a = c.args in
    let w = c.requires.summable in
    let parts = parts_in a.distances.now a.parents.now in
    let e = c.filled-one_each.ensures.throughout in record {
      r_value = to_z-of_z {w = w64} {z = c.sum_x.result} (fits-of _ _ c.sum_x.ensures c.requires.fits63) ∙ c.sum_x.ensures;
      h_value = to_z-of_z {w = w64} {z = c.sum_x-2.result} (fits-of _ _ c.sum_x-2.ensures (ones-fit _ e w parts (distance a.distances.now)))
          ∙ c.sum_x-2.ensures ∙ squares-ones _ e w parts (distance a.distances.now);
    }
