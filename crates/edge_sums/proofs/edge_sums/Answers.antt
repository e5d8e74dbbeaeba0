-- The shares, handed up, are the sums.
use mathlib.Core.Path.{◌∙◌}
use lib.IntN.{pos}
use Rattle.exact.specs.Table.{entry_of}
use Rattle.fit_theory.proofs.Measured.{all_remainders}
use Rattle.edge_sums.proofs.edge_sums.Goals as goal

pub returns : goal.returns
returns c = let a = c.args in record {
  size = c.handed_up.ensures.size;
  entries = λ v h. c.handed_up.ensures.entries v h ∙ c.shares-own.ensures.by_index v h ∙ all_remainders a.n a.edges a.distances.now a.parents.now (pos a.d) (entry_of a.numerators.now) v;
  rest = c.handed_up.ensures.rest;
}
