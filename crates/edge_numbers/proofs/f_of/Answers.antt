-- The accumulator stands for F, which is small, so it is F.
use Rattle.std.proofs.Common.{◌≡◌, ℕ, ◌≤◌, pos, ap, ◌∙◌, mul-le-mul, arith}
use Rattle.exact.specs.Sum.{sum, pairs}
use Rattle.exact.specs.LeastSquares.{sum_f}
use Rattle.exact.specs.Table.{entry_of}
use Rattle.exact.proofs.Sign.{fits_abs, back-pos}
use Rattle.matrix.proofs.Places.{pairs-few}
use Rattle.lengths.specs.Limits.{max_denominator}
use Rattle.tree_theory.specs.Chain.{parent_of, parts_pair}
use Rattle.splits.specs.Sums.{entry_at}
use Rattle.edge_numbers.specs.Squares.{square_at, max_squares}
use Rattle.edge_numbers.proofs.Totals.{gathered-is, gathered-high, f-gathered}
use Rattle.edge_numbers.proofs.f_of.Goals as goal
use Rattle.edge_numbers.proofs.f_of.Goals.{After-weighted}

-- F at the end
gathered : (c : After-weighted) → let a = c.args in
    pos c.weighted.result ≡ sum_f (pairs a.n) a.edges (parts_pair (parent_of a.parents.now)) (entry_at a.distances.now) (pos a.d) (entry_of a.numerators.now)
gathered c = let a = c.args in
    gathered-is _ _ c.weighted.type_inv c.requires.fits63
    (f-gathered a.n a.edges a.d a.distances.now a.parents.now a.numerators.now a.taken.now c.requires.taken_off c.squares-whole.result
    (c.squares-whole.ensures.0 ∙ ap (λ (k : ℕ). sum k (square_at a.distances.now)) c.pair_count.ensures) _ c.weighted.ensures)

high : (c : After-weighted) → c.weighted.result ≤ 9223372036854775807
high c = gathered-high _ _ c.requires.fits63 (gathered c)

pub squares-whole-requires : goal.squares-whole-requires
squares-whole-requires c = let t = c.requires.splittable in
    record {
      count_in_bounds = (omega (arith, c.pair_count.ensures, t.held), omega (arith, c.pair_count.ensures, pairs-few c.args.n t.allowed.few));
      by_index = t.near;
    }

pub overflow_mul-d : goal.overflow_mul-d
overflow_mul-d c = record { fits = omega (arith, mul-le-mul {n₁ = c.args.d} {m₁ = c.squares-whole.result} {n₂ = max_denominator} {m₂ = max_squares} c.requires.edges_in_bounds.1 c.squares-whole.ensures.1) }

pub overflow_cast-result : goal.overflow_cast-result
overflow_cast-result c = fits_abs _ (omega (arith, high c))

pub returns : goal.returns
returns c = back-pos c.weighted.result (omega (arith, high c)) ∙ gathered c
