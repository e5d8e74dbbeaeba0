-- Each is what its function gives, and fits.
use Rattle.std.proofs.Common.{◌∙◌, to_z-of_z, w64}
use Rattle.edge_numbers.proofs.Totals.{fits-of}
use Rattle.edge_numbers.proofs.numbers.Goals as goal

pub returns : goal.returns
returns c = record {
  f_value = to_z-of_z {w = w64} {z = c.f_of-f.result} (fits-of _ _ c.f_of-f.ensures c.requires.fits63) ∙ c.f_of-f.ensures;
  r_value = to_z-of_z {w = w64} {z = c.r_of.result} (fits-of _ _ c.r_of.ensures c.requires.fits63_2) ∙ c.r_of.ensures;
  h_value = to_z-of_z {w = w64} {z = c.h_of.result} (fits-of _ _ c.h_of.ensures c.requires.fits63_3) ∙ c.h_of.ensures;
}
