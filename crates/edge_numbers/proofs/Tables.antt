-- What is mixed of an edge's split sum and of its paths: what its pairs take off, and its sum of remainders.
use Rattle.std.proofs.Common.{◌≡◌, ℕ, ◌<◌, ◌≤◌, List, [], ◌∷◌, ℤ, pos, negsuc, ◌+ℤ◌, ◌*ℤ◌, nat_abs, sym, ap, ◌∙◌, ap₂, arith}
use Rattle.exact.specs.Sum.{pairs}
use Rattle.exact.specs.LeastSquares.{edge_sum}
use Rattle.exact.specs.Table.{table, entry_of}
use Rattle.exact.proofs.Fill.{get_or_table_const}
use Rattle.exact.proofs.Quote.{by-ring, quote}
use Rattle.exact.proofs.Sum.{pairs-sums}
use Rattle.tree_theory.specs.Limits.{max_vertices}
use Rattle.tree_theory.specs.Chain.{parent_of, parts_pair}
use Rattle.tree_theory.specs.EdgeTable.{EdgeTable}
use Rattle.path_sums.specs.Sums.{PathSums}
use Rattle.splits.specs.Sums.{entry_at, split_of}
use Rattle.edge_numbers.specs.Mixes.{Mixed}
use Rattle.edge_numbers.specs.Taken.{TakenOff}
use Rattle.edge_numbers.proofs.ByEdges.{edge-sum-by}

pub zeros-low : (ys : List ℤ) → ys ≡ table max_vertices (λ _. pos 0) → (K v : ℕ) → v < K → nat_abs (entry_of ys v) ≤ 6451200000000000000
zeros-low ys e K v h = omega (arith, ap nat_abs (ap (λ (l : List ℤ). entry_of l v) e ∙ get_or_table_const max_vertices (pos 0) v))

module _ (N K : ℕ) (ds ps : List ℕ) (xs ys r : List ℤ) (s : EdgeTable K (split_of N ds (parent_of ps)) xs) where
  pub taken-table : Mixed K (negsuc 0) (pos 0) xs ys r → TakenOff N K ds (parent_of ps) r
  taken-table m = record {
    size = m.size;
    entries = λ v h. m.entries v h ∙ alone (entry_of xs v) (entry_of ys v) ∙ ap (λ y. negsuc 0 *ℤ y) (s.entries v h);
    rest = λ v h. m.rest v h ∙ s.rest v h;
  }
    where
      alone : (x y : ℤ) → negsuc 0 *ℤ x +ℤ pos 0 *ℤ y ≡ negsuc 0 *ℤ x
      alone x y = by-ring (x ∷ y ∷ []) (search quote depth 20) tt

  pub remainders_table : (D : ℕ) (d : ℤ) (ns : List ℤ) → d ≡ pos D → PathSums N K (parent_of ps) (entry_of ns) ys → Mixed K d (negsuc 0) xs ys r
      → EdgeTable K (edge_sum (pairs N) K (parts_pair (parent_of ps)) (entry_at ds) (pos D) (entry_of ns)) r
  remainders_table D d ns e t m = record {
    size = m.size;
    entries = λ v h. m.entries v h ∙ ap (λ k. k *ℤ entry_of xs v +ℤ negsuc 0 *ℤ entry_of ys v) e ∙ ap₂ (λ x y. pos D *ℤ x +ℤ negsuc 0 *ℤ y) (s.entries v h) (t.entries v h)
        ∙ sym (edge-sum-by (pairs-sums N) K (parts_pair (parent_of ps)) (entry_at ds) (pos D) (entry_of ns) v);
    rest = λ v h. m.rest v h ∙ s.rest v h;
  }
