-- `numbered`: what stands keeps every number within its width, and each is the definition's.
use mathlib.Core.Path.{refl, ◌∙◌, ap}
use native.Mathlib.Omega.{arith}
use lib.IntN.{nat_abs}
use mir.Syntax.{w64}
use mir.Facts.{to_z-of_z}
use Rattle.exact.proofs.Sign.{fits_abs}
use Rattle.fit_theory.proofs.Demand3.{least}
use Rattle.pairs.proofs.Lent.{in_range}
use Rattle.edge_numbers.proofs.Totals.{fits-of}
use Rattle.reporting.proofs.Numbers.{edges_few, total-near, total-is, numerators-summable, f-fits, h_fits, rounded-summable, r-same, r-fits, rounded-is}
use Rattle.reporting.proofs.numbered.Goals as goal

pub rounded-thousandths-requires : goal.rounded-thousandths-requires
rounded-thousandths-requires c = let l = c.requires.stands.lengths in
    record {
      edges_le_max_edges = (edges_few _ _ _ _ _ _ c.requires.stands, l.one);
      in_range = in_range l;
    }

pub figures-figures-requires : goal.figures-figures-requires
figures-figures-requires c = let p = c.requires.stands in
    let e = c.rounded-thousandths.ensures in
    record {
      summable = numerators-summable _ _ _ _ _ _ p;
      in_range = in_range p.lengths;
      fits63 = f-fits _ _ _ _ _ _ p;
      summable_2 = rounded-summable _ _ _ _ _ _ p _ e;
      fits63_2 = r-fits _ _ _ _ _ _ p _ e;
    }

pub total-length-requires : goal.total-length-requires
total-length-requires c = record {
  edges_le_max_edges = edges_few _ _ _ _ _ _ c.requires.stands;
  in_range = in_range c.requires.stands.lengths;
}

pub mean_over-requires : goal.mean_over-requires
mean_over-requires c = c.requires.stands.fitted.posted.matrix

pub returns : goal.returns
returns c = let summed = c.total-length in
    let p = c.requires.stands in
    let e = c.rounded-thousandths.ensures in
    let g = c.figures-figures in record {
      strains = refl;
      edges = refl;
      denominator = refl;
      total = to_z-of_z {w = w64} {z = summed.result} (fits_abs _ (omega (arith, ap nat_abs (summed.ensures ∙ total-is _ _ _ _ _ _ p), total-near _ _ _ _ _ _ p)))
          ∙ summed.ensures ∙ total-is _ _ _ _ _ _ p;
      f = to_z-of_z {w = w64} {z = g.result.f} (fits-of _ _ g.ensures.f_value (f-fits _ _ _ _ _ _ p)) ∙ g.ensures.f_value;
      r = to_z-of_z {w = w64} {z = g.result.r} (fits-of _ _ g.ensures.r_value (r-fits _ _ _ _ _ _ p _ e)) ∙ g.ensures.r_value ∙ r-same _ _ _ _ _ _ p _ e;
      h = to_z-of_z {w = w64} {z = g.result.h} (fits-of _ _ g.ensures.h_value (h_fits _ _ _ _ _ _ p)) ∙ g.ensures.h_value;
      mean = c.mean_over.ensures;
      rounded = rounded-is _ _ _ _ _ _ p _ e _ c.copy_out.ensures;
      stands = p;
      least = least _ _ _ _ _ _ p.fitted;
      near = total-near _ _ _ _ _ _ p;
    }
