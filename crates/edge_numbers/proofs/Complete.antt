-- A matrix of which no pair is missing is its table: the measured pairs that an edge parts are those that it parts, and a distance is the number that stands
-- there.
use Rattle.std.proofs.Common.{◌≡◌, ℕ, ◌≤◌, Bool, List, length, get_or, ℤ, pos, ◌*ℤ◌, ap, subst, ap₂}
use mathlib.Core.Path.{fun_ext}
use Rattle.exact.specs.Sum.{pairs, ind}
use Rattle.exact.specs.LeastSquares.{edge_sum, sum_f, sum_x, sum_h}
use Rattle.matrix.specs.Limits.{max_distance}
use Rattle.matrix.specs.Place.{pair_count, place, known, distance, Complete}
use Rattle.matrix.proofs.Completes.{all_known}
use Rattle.tree_theory.specs.Chain.{parent_of, parts_pair}
use Rattle.tree_theory.specs.Allowed.{Allowed}
use Rattle.fit_theory.specs.Quantities.{parts_in, split_sum}
use Rattle.fit_theory.proofs.Complete.{complete-parts}
use Rattle.splits.specs.Sums.{entry_at, split_of, Splittable}

module _ (ds ps : List ℕ) (all : Complete ds) where
  distances_are : distance ds ≡ entry_at ds
  distances_are = fun_ext (λ p. ap pos (all_known ds all (place p.0 p.1)))

  pub table-splits : {N K : ℕ} → K ≤ length ps → Allowed N K (parent_of ps) → pair_count N ≤ length ds → ((k : ℕ) → known (get_or ds k 0) ≤ max_distance) → Splittable N K ds ps
  table-splits a b c near = record { room = a; allowed = b; held = c; near = λ k. subst (λ (x : ℕ). x ≤ max_distance) (all_known ds all k) (near k) }

  module _ (N K : ℕ) where
    -- whatever is said of the measured pairs and their distances
    as_table : (f : (ℕ → ℕ × ℕ → Bool) → (ℕ × ℕ → ℤ) → ℤ) → f (parts_in ds ps) (distance ds) ≡ f (parts_pair (parent_of ps)) (entry_at ds)
    as_table f = ap₂ f (complete-parts ds ps all) distances_are

    pub table-split : (v : ℕ) → split_sum N ds ps v ≡ split_of N ds (parent_of ps) v
    table-split v = as_table (λ A d. pairs N (λ p. ind (A v p) *ℤ d p))

    pub table-edge : (D : ℤ) (n : ℕ → ℤ) (v : ℕ) → edge_sum (pairs N) K (parts_in ds ps) (distance ds) D n v ≡ edge_sum (pairs N) K (parts_pair (parent_of ps)) (entry_at ds) D n v
    table-edge D n v = as_table (λ A d. edge_sum (pairs N) K A d D n v)

    pub table-f : (D : ℤ) (n : ℕ → ℤ) → sum_f (pairs N) K (parts_in ds ps) (distance ds) D n ≡ sum_f (pairs N) K (parts_pair (parent_of ps)) (entry_at ds) D n
    table-f D n = as_table (λ A d. sum_f (pairs N) K A d D n)

    pub table-x : (Q : ℤ) (x : ℕ → ℤ) → sum_x (pairs N) K (parts_in ds ps) (distance ds) Q x ≡ sum_x (pairs N) K (parts_pair (parent_of ps)) (entry_at ds) Q x
    table-x Q x = as_table (λ A d. sum_x (pairs N) K A d Q x)

    pub table-h : sum_h (pairs N) K (parts_in ds ps) ≡ sum_h (pairs N) K (parts_pair (parent_of ps))
    table-h = ap (λ (A : ℕ → ℕ × ℕ → Bool). sum_h (pairs N) K A) (complete-parts ds ps all)
