-- The accumulator stands for H, which is small, so it is H.
use Rattle.std.proofs.Common.{◌≡◌, ◌≤◌, pos, ◌∙◌, arith}
use Rattle.exact.specs.Sum.{pairs}
use Rattle.exact.specs.LeastSquares.{sum_h}
use Rattle.exact.proofs.Sign.{fits_abs, back-pos}
use Rattle.tree_theory.specs.Chain.{parent_of, parts_pair}
use Rattle.edge_numbers.proofs.OneEach.{one, ones-lengthened}
use Rattle.edge_numbers.proofs.Totals.{gathered-is, gathered-high, h-gathered}
use Rattle.edge_numbers.proofs.h_of.Goals as goal
use Rattle.edge_numbers.proofs.h_of.Goals.{After-weighted}

-- H at the end
gathered : (c : After-weighted) → let a = c.args in
    pos c.weighted.result ≡ sum_h (pairs a.n) a.edges (parts_pair (parent_of a.parents.now))
gathered c = let a = c.args in
    gathered-is _ _ c.weighted.type_inv c.requires.fits63
    (h-gathered a.n a.edges (parent_of a.parents.now) c.filled-one_each.result _ (one _ c.filled-one_each.ensures.throughout c.requires.edges_in_bounds.1) c.path_sums.ensures _ c.weighted.ensures)

high : (c : After-weighted) → c.weighted.result ≤ 9223372036854775807
high c = gathered-high _ _ c.requires.fits63 (gathered c)

pub path_sums-requires : goal.path_sums-requires
path_sums-requires c = record {
  lengthened = ones-lengthened _ c.filled-one_each.ensures.throughout c.requires.edges_in_bounds.0 c.requires.edges_in_bounds.1;
  sums_value = c.filled-paths.ensures.throughout;
}

pub overflow_cast-result : goal.overflow_cast-result
overflow_cast-result c = fits_abs _ (omega (arith, high c))

pub returns : goal.returns
returns c = back-pos c.weighted.result (omega (arith, high c)) ∙ gathered c
