-- Each number is the fit's.
use mathlib.Core.Path.{refl, ◌∙◌, subst}
use lib.IntN.{ℤ, nat_abs}
use lib.ListN.{length}
use mir.Syntax.{w64}
use mir.Facts.{to_z-of_z}
use Rattle.fit_theory.proofs.Demand3.{least}
use Rattle.edge_numbers.proofs.Totals.{fits-of}
use Rattle.pairs.proofs.Lent.{standing}
use Rattle.long_numbers.specs.Wides.{Natural, Wides}
use Rattle.long_reporting.proofs.Reporting.{long-ready, f-same, f-up, total-same, rounded-is, rounded-summable, r-same, r-fits, h_fits}
use Rattle.long_reporting.proofs.long_numbered.Goals as goal

pub long_f-f-requires : goal.long_f-f-requires
long_f-f-requires c = record {
  long_ready = long-ready c.args.rule c.args.n c.args.distances.now c.args.parents.now c.args.d.now c.args.digits.now c.requires (standing c.args.n c.args.parents.now _ c.clusters-masks.ensures c.requires.fitted.posted.tree);
  levels_le_max_levels = (c.requires.lengths.most, f-up c.args.rule c.args.n c.args.distances.now c.args.parents.now c.args.d.now c.args.digits.now c.requires);
}

pub sum_squares-squares-requires : goal.sum_squares-squares-requires
sum_squares-squares-requires c = record {
  summable = rounded-summable c.args.rule c.args.n c.args.distances.now c.args.parents.now c.args.d.now c.args.digits.now c.requires c.long_rounded-rounded.ensures.edge_table c.long_rounded-rounded.ensures.by_index;
  fits63 = r-fits c.args.rule c.args.n c.args.distances.now c.args.parents.now c.args.d.now c.args.digits.now c.requires c.long_rounded-rounded.ensures.edge_table c.long_rounded-rounded.ensures.by_index;
}

pub long_mean-requires : goal.long_mean-requires
long_mean-requires c = record {
  proper = c.requires.fitted.posted.matrix;
  d_len_bound = (c.requires.lengths.most, c.requires.lengths.digits);
}

pub returns : goal.returns
returns c = let q = c.sum_squares-squares in
    record {
      strains = refl;
      edges = refl;
      rounded = rounded-is c.args.rule c.args.n c.args.distances.now c.args.parents.now c.args.d.now c.args.digits.now c.requires c.long_rounded-rounded.ensures.edge_table c.long_rounded-rounded.ensures.by_index;
      total = subst (λ (z : ℤ). Wides (length c.args.d.now) z c.long_total.result.negative c.long_total.result.digits) (total-same c.args.rule c.args.n c.args.distances.now c.args.parents.now c.args.d.now c.args.digits.now c.requires) c.long_total.ensures;
      f = subst (λ (z : ℤ). Natural (length c.args.d.now) (nat_abs z) c.long_f-f.result) (f-same c.args.rule c.args.n c.args.distances.now c.args.parents.now c.args.d.now c.args.digits.now c.requires) c.long_f-f.ensures;
      r = to_z-of_z {w = w64} {z = q.result.r} (fits-of _ _ q.ensures.r_value (r-fits c.args.rule c.args.n c.args.distances.now c.args.parents.now c.args.d.now c.args.digits.now c.requires c.long_rounded-rounded.ensures.edge_table c.long_rounded-rounded.ensures.by_index)) ∙ q.ensures.r_value ∙ r-same c.args.rule c.args.n c.args.distances.now c.args.parents.now c.args.d.now c.args.digits.now c.requires c.long_rounded-rounded.ensures.edge_table c.long_rounded-rounded.ensures.by_index;
      h = to_z-of_z {w = w64} {z = q.result.h} (fits-of _ _ q.ensures.h_value (h_fits c.args.rule c.args.n c.args.distances.now c.args.parents.now c.args.d.now c.args.digits.now c.requires)) ∙ q.ensures.h_value;
      mean = c.long_mean.ensures;
      stands = c.requires;
      least = least c.args.rule c.args.n c.args.distances.now c.args.parents.now _ _ c.requires.fitted;
    }
