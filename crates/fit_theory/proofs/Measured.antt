-- What a measured pair and a missing one have in the sums: a measured pair its own path, distance and remainder, a missing one nothing.
use mathlib.Core.Path.{◌≡◌, refl, sym, ◌∙◌, ap, ap₂}
use mathlib.Core.Bool.{Bool, true, false, ◌&&◌}
use mathlib.Core.List.{List}
use Prim.Native.Nat.{ℕ, ◌<◌}
use lib.IntN.{ℤ, pos, ◌-ℤ◌, ◌*ℤ◌, zero-*ℤ, *ℤ-zero}
use lib.ListN.{get_or}
use Rattle.exact.specs.Sum.{sum, pairs, ind}
use Rattle.exact.specs.LeastSquares.{path, hops, remainder, edge_sum}
use Rattle.exact.proofs.Sum.{sum_cong, sum-zero, pairs_cong, ind-no}
use Rattle.matrix.specs.Place.{place, measured, known, distance}
use Rattle.matrix.proofs.Looking.{known_of, known-none}
use Rattle.fit_theory.specs.Quantities.{parts_of, parts_in}
use Rattle.fit_theory.proofs.Complete.{and_true}

and-false : (b : Bool) → (b && false) ≡ false
and-false true = refl
and-false false = refl

module _ (ds ps : List ℕ) (p : ℕ × ℕ) where
  module _ (e : measured ds p ≡ true) where
    measured-at : (v : ℕ) → parts_in ds ps v p ≡ parts_of ps v p
    measured-at v = ap (λ (b : Bool). parts_of ps v p && b) e ∙ and_true (parts_of ps v p)

    pub measured-path : (K : ℕ) (x : ℕ → ℤ) → path K (parts_in ds ps) x p ≡ path K (parts_of ps) x p
    unfolding path
    measured-path K x = sum_cong K (λ v _. ap (λ (b : Bool). ind b *ℤ x v) (measured-at v))

    pub measured-hops : (K : ℕ) → hops K (parts_in ds ps) p ≡ hops K (parts_of ps) p
    unfolding hops
    measured-hops K = sum_cong K (λ v _. ap ind (measured-at v))

    pub measured-remainder : (K : ℕ) (D : ℤ) (n : ℕ → ℤ) → remainder K (parts_in ds ps) (distance ds) D n p ≡ D *ℤ pos (get_or ds (place p.0 p.1) 0) -ℤ path K (parts_of ps) n p
    measured-remainder K D n = ap₂ (λ (k : ℕ) (y : ℤ). D *ℤ pos k -ℤ y) (known_of (get_or ds (place p.0 p.1) 0) e) (measured-path K n)

  module _ (e : measured ds p ≡ false) where
    missing_at : (v : ℕ) → parts_in ds ps v p ≡ false
    missing_at v = ap (λ (b : Bool). parts_of ps v p && b) e ∙ and-false (parts_of ps v p)

    pub missing-path : (K : ℕ) (x : ℕ → ℤ) → path K (parts_in ds ps) x p ≡ pos 0
    unfolding path
    missing-path K x = sum_cong K (λ v _. ap (λ (y : ℤ). y *ℤ x v) (ind-no (missing_at v)) ∙ zero-*ℤ (x v)) ∙ sum-zero K

    pub missing-hops : (K : ℕ) → hops K (parts_in ds ps) p ≡ pos 0
    unfolding hops
    missing-hops K = sum_cong K (λ v _. ind-no (missing_at v)) ∙ sum-zero K

    pub missing-distance : distance ds p ≡ pos 0
    missing-distance = ap pos (known-none (get_or ds (place p.0 p.1) 0) e)

    pub missing-remainder : (K : ℕ) (D : ℤ) (n : ℕ → ℤ) → remainder K (parts_in ds ps) (distance ds) D n p ≡ pos 0
    missing-remainder K D n = ap₂ (λ (x y : ℤ). D *ℤ x -ℤ y) missing-distance (missing-path K n) ∙ ap (λ (x : ℤ). x -ℤ pos 0) (*ℤ-zero D)

-- a missing pair has no remainder, so an edge's sum may run over all pairs that the edge parts
pub all_remainders : (N K : ℕ) (ds ps : List ℕ) (D : ℤ) (n : ℕ → ℤ) (v : ℕ)
    → pairs N (λ p. ind (parts_of ps v p) *ℤ remainder K (parts_in ds ps) (distance ds) D n p) ≡ edge_sum (pairs N) K (parts_in ds ps) (distance ds) D n v
all_remainders N K ds ps D n v = pairs_cong N (λ p _ _. at p (measured ds p) refl)
  where
    at : (p : ℕ × ℕ) (m : Bool) → measured ds p ≡ m
        → ind (parts_of ps v p) *ℤ remainder K (parts_in ds ps) (distance ds) D n p ≡ ind (parts_in ds ps v p) *ℤ remainder K (parts_in ds ps) (distance ds) D n p
    at p true e = ap (λ (b : Bool). ind b *ℤ remainder K (parts_in ds ps) (distance ds) D n p) (sym (measured-at ds ps p e v))
    at p false e = let z = missing-remainder ds ps p e K D n in
        ap (λ (y : ℤ). ind (parts_of ps v p) *ℤ y) z ∙ *ℤ-zero (ind (parts_of ps v p)) ∙ sym (ap (λ (y : ℤ). ind (parts_in ds ps v p) *ℤ y) z ∙ *ℤ-zero (ind (parts_in ds ps v p)))
