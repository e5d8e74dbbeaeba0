-- Over a denominator of 1 and lengths of 0 no path takes anything off: an edge's sum of remainders is its split sum.
use mathlib.Core.Path.{◌≡◌, ◌∙◌, ap}
use mathlib.Core.Bool.{Bool}
use mathlib.Core.List.{List, [], ◌∷◌}
use Prim.Native.Nat.{ℕ, ◌≤◌}
use native.Mathlib.Omega.{arith}
use lib.IntN.{ℤ, pos, nat_abs, ◌-ℤ◌, ◌*ℤ◌, *ℤ-zero}
use lib.ListN.{length}
use Rattle.exact.specs.Sum.{pairs, ind}
use Rattle.exact.specs.Table.{table, entry_of}
use Rattle.exact.specs.LeastSquares.{path, edge_sum}
use Rattle.exact.proofs.Fill.{length-table, get_or_table_const}
use Rattle.exact.proofs.Quote.{by-ring, quote}
use Rattle.exact.proofs.Sum.{sum_cong, sum-zero, pairs-sums, S-cong}
use Rattle.matrix.specs.Place.{distance}
use Rattle.tree_theory.specs.Limits.{max_edges}
use Rattle.fit_theory.specs.Quantities.{parts_in, split_sum}
use Rattle.fit_theory.specs.Stands.{Posted}
use Rattle.paths.specs.Standing.{Standing}
use Rattle.pairs.specs.Ready.{Ready, InRange}
use Rattle.matrix.proofs.Completes.{known-near}
use Rattle.pairs.proofs.Lent.{few-edges}

once : (z : ℤ) → pos 1 *ℤ z -ℤ pos 0 ≡ z
once z = by-ring (z ∷ []) (search quote depth 20) tt

path-none : {I : Type 0} (K : ℕ) (parts : ℕ → I → Bool) (x : ℕ → ℤ) (p : I) → ((v : ℕ) → x v ≡ pos 0) → path K parts x p ≡ pos 0
unfolding path
path-none K parts x p h = sum_cong K (λ v _. ap (λ (z : ℤ). ind (parts v p) *ℤ z) (h v) ∙ *ℤ-zero (ind (parts v p))) ∙ sum-zero K

module _ {ns : List ℤ} (e : ns ≡ table max_edges (λ _. pos 0)) where
  none : (v : ℕ) → entry_of ns v ≡ pos 0
  none v = ap (λ (l : List ℤ). entry_of l v) e ∙ get_or_table_const max_edges (pos 0) v

  pub none-ready : {N : ℕ} {ds ps cs : List ℕ} → Posted N ds ps → Standing N (length ps) ps cs → Ready N (length ps) 1 ds ps cs ns
  none-ready p s = record {
    standing = s;
    most = omega arith;
    room = omega (arith, p.matrix.whole);
    near = known-near p.matrix;
    small = record { room = omega (arith, few-edges p.tree, ap length e, length-table max_edges (λ (_ : ℕ). pos 0)); near = λ v l. omega (arith, ap nat_abs (none v)) };
  }

  pub none-range : {K : ℕ} → K ≤ max_edges → InRange K ns
  none-range few = record { room = omega (arith, ap length e, length-table max_edges (λ (_ : ℕ). pos 0)); near = λ v l. omega (arith, ap nat_abs (none v)) }

  -- so an edge's sum is its split sum
  pub none-sum : (N : ℕ) (ds ps : List ℕ) (v : ℕ) → edge_sum (pairs N) (length ps) (parts_in ds ps) (distance ds) (pos 1) (entry_of ns) v ≡ split_sum N ds ps v
  none-sum N ds ps v = S-cong (pairs-sums N) (λ p. ap (λ (z : ℤ). ind (parts_in ds ps v p) *ℤ z)
      (ap (λ (z : ℤ). pos 1 *ℤ distance ds p -ℤ z) (path-none (length ps) (parts_in ds ps) (entry_of ns) p none)
      ∙ once (distance ds p)))
