-- The accumulator stands for R, which is small, so it is R.
use Rattle.std.proofs.Common.{◌≡◌, ℕ, ◌<◌, ◌≤◌, List, ℤ, pos, negsuc, ◌+ℤ◌, ◌*ℤ◌, ap, ◌∙◌, ap₂, arith}
use Rattle.exact.specs.Sum.{sum, pairs}
use Rattle.exact.specs.LeastSquares.{sum_r}
use Rattle.exact.specs.Table.{entry_of}
use Rattle.exact.proofs.Sign.{fits_abs, back-pos}
use Rattle.matrix.proofs.Places.{pairs-few}
use Rattle.tree_theory.specs.Chain.{parent_of, parts_pair}
use Rattle.path_sums.specs.Sums.{path_sum}
use Rattle.splits.specs.Sums.{entry_at, split_of}
use Rattle.edge_numbers.specs.Squares.{square_at}
use Rattle.edge_numbers.proofs.Bounds.{few-edges, paths-low, taken-low, mixable}
use Rattle.edge_numbers.proofs.Totals.{gathered-is, gathered-high, r-gathered}
use Rattle.edge_numbers.proofs.r_of.Goals as goal
use Rattle.edge_numbers.proofs.r_of.Goals.{After-weighted, Start}

abbrev start : After-weighted → Start
start c = c.before.before.before.before.before.before.before.before.before.before.before.before.before.before

-- the table that was mixed
abbrev mixed : After-weighted → List ℤ
mixed c = c.mix.new.sums

mixed-is : (c : After-weighted) → let a = c.args in (v : ℕ) → v < a.edges
    → entry_of (mixed c) v ≡ pos 2000 *ℤ (negsuc 0 *ℤ split_of a.n a.distances.now (parent_of a.parents.now) v) +ℤ pos 1 *ℤ path_sum a.n a.edges (parent_of a.parents.now) (entry_of a.lengths.now) v
mixed-is c v h = c.mix.ensures.entries v h
    ∙ ap₂ (λ x y. pos 2000 *ℤ x +ℤ pos 1 *ℤ y) (c.requires.taken_off.entries v h) (c.path_sums.ensures.entries v h)

-- R at the end
gathered : (c : After-weighted) → let a = c.args in
    pos c.weighted.result ≡ sum_r (pairs a.n) a.edges (parts_pair (parent_of a.parents.now)) (entry_at a.distances.now) (entry_of a.lengths.now)
gathered c = let a = c.args in
    gathered-is _ _ c.weighted.type_inv c.requires.fits63
    (r-gathered a.n a.edges a.distances.now a.parents.now a.lengths.now (mixed c) (mixed-is c) c.squares-whole.result
    (c.squares-whole.ensures.0 ∙ ap (λ (k : ℕ). sum k (square_at a.distances.now)) c.pair_count.ensures) _ c.weighted.ensures)

high : (c : After-weighted) → c.weighted.result ≤ 9223372036854775807
high c = gathered-high _ _ c.requires.fits63 (gathered c)

pub mix-requires : goal.mix-requires
mix-requires c = record {
  edges_le_max_edges = (few-edges c.requires.splittable, c.requires.taken_off.size);
  mixable = mixable _ _ _ _ _ (omega arith) (omega arith) (taken-low c.requires.splittable c.requires.taken_off) (paths-low c.requires.lengthened c.path_sums.ensures);
}

pub squares-whole-requires : goal.squares-whole-requires
squares-whole-requires c = let t = c.requires.splittable in
    record {
      count_in_bounds = (omega (arith, c.pair_count.ensures, t.held), omega (arith, c.pair_count.ensures, pairs-few c.args.n t.allowed.few));
      by_index = t.near;
    }

pub overflow_cast-result : goal.overflow_cast-result
overflow_cast-result c = fits_abs _ (omega (arith, high c))

pub returns : goal.returns
returns c = back-pos c.weighted.result (omega (arith, high c)) ∙ gathered c
