-- A complete matrix: every pair is measured, so each sum runs over all pairs, as RULES says it where no pair is missing.
-- `complete-parts`: the measured pairs that an edge parts are the pairs that it parts. `as_whole`: so are the numbers. `complete-seen`:
-- every edge of an allowed tree parts some pair. `complete-posted`: so a complete matrix passes with any allowed tree.
use mathlib.Core.Path.{◌≡◌, refl, sym, ◌∙◌, ap, subst, fun_ext}
use mathlib.Core.Bool.{Bool, true, false, not, cond, ◌&&◌}
use mathlib.Core.List.{List}
use Prim.Native.Nat.{ℕ, ◌<◌}
use native.Mathlib.Decide.{dec_lt}
use native.Mathlib.Omega.{arith}
use lib.IntN.{ℤ, pos, ◌*ℤ◌}
use lib.ListN.{length}
use Rattle.exact.specs.Sum.{pairs, ind}
use Rattle.exact.specs.LeastSquares.{edge_sum, sum_f, sum_r, sum_h}
use Rattle.exact.specs.Table.{entry_of}
use Rattle.exact.proofs.Decide.{by_cases, eq_yes, eq_no}
use Rattle.matrix.specs.Place.{place, measured, distance, Complete}
use Rattle.matrix.proofs.Completes.{all-measured}
use Rattle.tree_theory.specs.Chain.{parent_of, below, parts}
use Rattle.tree_theory.proofs.Chains.{Below}
use Rattle.tree_theory.proofs.Strains.{leaf, third-way}
use Rattle.fit_theory.specs.Quantities.{parts_of, parts_in, rounded_of, split_sum, edge_sum_of, f_of, r_of, h_of}
use Rattle.fit_theory.specs.Stands.{Shaped, Seen, Posted}

pub and_true : (b : Bool) → (b && true) ≡ b
and_true true = refl
and_true false = refl

module _ (ds ps : List ℕ) (all : Complete ds) where
  pub complete-at : (v : ℕ) (p : ℕ × ℕ) → parts_in ds ps v p ≡ parts_of ps v p
  complete-at v p = ap (λ (b : Bool). parts_of ps v p && b) (all-measured ds all (place p.0 p.1)) ∙ and_true (parts_of ps v p)

  pub complete-parts : parts_in ds ps ≡ parts_of ps
  complete-parts = fun_ext (λ v. fun_ext (complete-at v))

-- the numbers of a proposal, each over all pairs
pub record Whole (N : ℕ) (ds ps : List ℕ) (D : ℕ) (ns : List ℤ) : Type 0 where
  pub split : (v : ℕ) → split_sum N ds ps v ≡ pairs N (λ p. ind (parts_of ps v p) *ℤ distance ds p)
  pub edge : (v : ℕ) → edge_sum_of N ds ps D ns v ≡ edge_sum (pairs N) (length ps) (parts_of ps) (distance ds) (pos D) (entry_of ns) v
  pub f : f_of N ds ps D ns ≡ sum_f (pairs N) (length ps) (parts_of ps) (distance ds) (pos D) (entry_of ns)
  pub r : r_of N ds ps D ns ≡ sum_r (pairs N) (length ps) (parts_of ps) (distance ds) (rounded_of D ns)
  pub h : h_of N ds ps ≡ sum_h (pairs N) (length ps) (parts_of ps)

pub as_whole : (N : ℕ) (ds ps : List ℕ) (D : ℕ) (ns : List ℤ) → Complete ds → Whole N ds ps D ns
as_whole N ds ps D ns all = let e = complete-parts ds ps all in record {
  split = λ v. ap (λ (A : ℕ → ℕ × ℕ → Bool). pairs N (λ p. ind (A v p) *ℤ distance ds p)) e;
  edge = λ v. ap (λ (A : ℕ → ℕ × ℕ → Bool). edge_sum (pairs N) (length ps) A (distance ds) (pos D) (entry_of ns) v) e;
  f = ap (λ (A : ℕ → ℕ × ℕ → Bool). sum_f (pairs N) (length ps) A (distance ds) (pos D) (entry_of ns)) e;
  r = ap (λ (A : ℕ → ℕ × ℕ → Bool). sum_r (pairs N) (length ps) A (distance ds) (rounded_of D ns)) e;
  h = ap (λ (A : ℕ → ℕ × ℕ → Bool). sum_h (pairs N) (length ps) A) e;
}

-- a vertex parts a strain below it from one that is not
apart : (par : ℕ → ℕ) (v i k : ℕ) → Below par i v → (Below par k v → ⊥) → (parts par v i k ≡ true) × (parts par v k i ≡ true)
unfolding parts below
apart par v i k b n = rw (eq_yes b, eq_no n) (refl, refl)

module _ (N : ℕ) (ds ps : List ℕ) (s : Shaped N ds ps) (all : Complete ds) where
  pub complete-seen : (v : ℕ) → v < length ps → Seen N ds ps v
  complete-seen v l =
      let (i, a, b) = leaf N (length ps) (parent_of ps) s.tree v (omega arith) in
      let (k, c, n, _) = third-way N (length ps) (parent_of ps) s.tree v v l l refl in
      by_cases (dec_lt i k)
      (λ h. record { i = i; j = k; rising = h; strain = c; parted = complete-at ds ps all v (i, k) ∙ (apart (parent_of ps) v i k b n).0 })
      (λ h. by_cases (dec_lt k i)
      (λ g. record { i = k; j = i; rising = g; strain = a; parted = complete-at ds ps all v (k, i) ∙ (apart (parent_of ps) v i k b n).1 })
      (λ g. let e : i ≡ k = omega arith in absurd (n (subst (λ (t : ℕ). Below (parent_of ps) t v) e b))))

  pub complete-posted : Posted N ds ps
  complete-posted = record { matrix = s.matrix; tree = s.tree; seen = complete-seen }
