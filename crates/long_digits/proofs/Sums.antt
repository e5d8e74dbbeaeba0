-- What is linear in a denominator and its numerators is had digit by digit: the edges' sums of remainders, and F, over any
-- incidence.
use mathlib.Core.Path.{◌≡◌, refl, sym, ◌∙◌, ap, ap₂}
use mathlib.Core.Bool.{Bool}
use mathlib.Core.List.{[], ◌∷◌}
use Prim.Native.Nat.{ℕ, zero, suc}
use lib.IntN.{ℤ, pos, negsuc, ◌+ℤ◌, ◌-ℤ◌, ◌*ℤ◌, *ℤ-zero, zero-*ℤ}
use Rattle.exact.specs.Sum.{sum, ind, Sums}
use Rattle.exact.specs.LeastSquares.{path, remainder, edge_sum, sum_f}
use Rattle.exact.proofs.Quote.{by-ring, quote}
use Rattle.exact.proofs.Sum.{sum_cong, sum-+, sum-*, sum-zero, S-cong, S-zero, S-swap}
use Rattle.long_digits.specs.Digits.{base, value}

module _ {I : Type 0} (K : ℕ) (parts : ℕ → I → Bool) (d : I → ℤ) where
  path-add : (a : ℤ) (x y : ℕ → ℤ) (p : I) → path K parts (λ v. a *ℤ x v +ℤ y v) p ≡ a *ℤ path K parts x p +ℤ path K parts y p
  unfolding path
  path-add a x y p =
      sum_cong K (λ v _. by-ring (ind (parts v p) ∷ a ∷ x v ∷ y v ∷ []) (search quote depth 20) tt)
      ∙ sum-+ K (λ v. a *ℤ (ind (parts v p) *ℤ x v)) (λ v. ind (parts v p) *ℤ y v)
      ∙ ap (λ z. z +ℤ sum K (λ v. ind (parts v p) *ℤ y v)) (sum-* K a (λ v. ind (parts v p) *ℤ x v))

  path-none : (p : I) → path K parts (λ _. pos 0) p ≡ pos 0
  unfolding path
  path-none p = sum_cong K (λ v _. *ℤ-zero (ind (parts v p))) ∙ sum-zero K

  remainder-add : (a D E : ℤ) (x y : ℕ → ℤ) (p : I)
      → remainder K parts d (a *ℤ D +ℤ E) (λ v. a *ℤ x v +ℤ y v) p ≡ a *ℤ remainder K parts d D x p +ℤ remainder K parts d E y p
  remainder-add a D E x y p = ap (λ z. (a *ℤ D +ℤ E) *ℤ d p -ℤ z) (path-add a x y p)
      ∙ by-ring (a ∷ D ∷ E ∷ d p ∷ path K parts x p ∷ path K parts y p ∷ []) (search quote depth 20) tt

  remainder-none : (p : I) → remainder K parts d (pos 0) (λ _. pos 0) p ≡ pos 0
  remainder-none p = ap₂ (λ x y. x -ℤ y) (zero-*ℤ (d p)) (path-none p)

  -- the remainder of a pair, digit by digit
  pub remainder-value : (L : ℕ) (D : ℕ → ℤ) (n : ℕ → ℕ → ℤ) (p : I)
      → remainder K parts d (value L D) (λ v. value L (λ k. n k v)) p ≡ value L (λ k. remainder K parts d (D k) (n k) p)
  unfolding value
  remainder-value zero D n p = remainder-none p
  remainder-value (suc L) D n p = remainder-add (pos base) (value L D) (D L) (λ v. value L (λ k. n k v)) (n L) p
      ∙ ap (λ z. pos base *ℤ z +ℤ remainder K parts d (D L) (n L) p) (remainder-value L D n p)

-- a weighted sum of numbers is the number of the weighted sums
module _ {I : Type 0} {S : (I → ℤ) → ℤ} (T : Sums S) (w : I → ℤ) where
  pub S-value : (L : ℕ) (f : ℕ → I → ℤ) → S (λ p. w p *ℤ value L (λ k. f k p)) ≡ value L (λ k. S (λ p. w p *ℤ f k p))
  unfolding value
  S-value zero f = S-cong T (λ p. *ℤ-zero (w p)) ∙ S-zero T
  S-value (suc L) f =
      S-cong T (λ p. by-ring (w p ∷ pos base ∷ value L (λ k. f k p) ∷ f L p ∷ []) (search quote depth 20) tt)
      ∙ T.add (λ p. pos base *ℤ (w p *ℤ value L (λ k. f k p))) (λ p. w p *ℤ f L p)
      ∙ ap (λ z. z +ℤ S (λ p. w p *ℤ f L p)) (T.scale (pos base) (λ p. w p *ℤ value L (λ k. f k p)) ∙ ap (λ z. pos base *ℤ z) (S-value L f))

module _ {I : Type 0} {S : (I → ℤ) → ℤ} (T : Sums S) (K : ℕ) (parts : ℕ → I → Bool) (d : I → ℤ) (L : ℕ) (D : ℕ → ℤ) (n : ℕ → ℕ → ℤ) where
  pub edge_sum-value : (u : ℕ) → edge_sum S K parts d (value L D) (λ v. value L (λ k. n k v)) u ≡ value L (λ k. edge_sum S K parts d (D k) (n k) u)
  edge_sum-value u = S-cong T (λ p. ap (λ z. ind (parts u p) *ℤ z) (remainder-value K parts d L D n p))
      ∙ S-value T (λ p. ind (parts u p)) L (λ k. remainder K parts d (D k) (n k))

  pub sum_f-value : sum_f S K parts d (value L D) (λ v. value L (λ k. n k v)) ≡ value L (λ k. sum_f S K parts d (D k) (n k))
  sum_f-value = S-cong T (λ p. ap (λ z. d p *ℤ z) (remainder-value K parts d L D n p))
      ∙ S-value T d L (λ k. remainder K parts d (D k) (n k))

-- F by the sum of squared distances and the split sums, which are F and the edges' sums of the table of zeros over 1
module _ {I : Type 0} {S : (I → ℤ) → ℤ} (T : Sums S) (K : ℕ) (parts : ℕ → I → Bool) (d : I → ℤ) where
  bare : (p : I) → remainder K parts d (pos 1) (λ _. pos 0) p ≡ d p
  bare p = ap (λ z. pos 1 *ℤ d p -ℤ z) (path-none K parts d p) ∙ by-ring (d p ∷ []) (search quote depth 20) tt

  pub squares_are : sum_f S K parts d (pos 1) (λ _. pos 0) ≡ S (λ p. d p *ℤ d p)
  squares_are = S-cong T (λ p. ap (λ z. d p *ℤ z) (bare p))

  pub splits_are : (v : ℕ) → edge_sum S K parts d (pos 1) (λ _. pos 0) v ≡ S (λ p. ind (parts v p) *ℤ d p)
  splits_are v = S-cong T (λ p. ap (λ z. ind (parts v p) *ℤ z) (bare p))

  -- d times a path, edge by edge
  along : (n : ℕ → ℤ) → S (λ p. d p *ℤ path K parts n p) ≡ sum K (λ v. n v *ℤ S (λ p. ind (parts v p) *ℤ d p))
  unfolding path
  along n =
      S-cong T (λ p. sym (sum-* K (d p) (λ v. ind (parts v p) *ℤ n v)) ∙ sum_cong K (λ v _. by-ring (d p ∷ ind (parts v p) ∷ n v ∷ []) (search quote depth 20) tt))
      ∙ S-swap T K (λ v p. n v *ℤ (ind (parts v p) *ℤ d p))
      ∙ sum_cong K (λ v _. T.scale (n v) (λ p. ind (parts v p) *ℤ d p))

  pub split-F : (D : ℤ) (n : ℕ → ℤ) → sum_f S K parts d D n ≡ D *ℤ sum_f S K parts d (pos 1) (λ _. pos 0) -ℤ sum K (λ v. n v *ℤ edge_sum S K parts d (pos 1) (λ _. pos 0) v)
  split-F D n =
      S-cong T (λ p. by-ring (d p ∷ D ∷ path K parts n p ∷ []) (search quote depth 20) tt)
      ∙ T.add (λ p. D *ℤ (d p *ℤ d p)) (λ p. negsuc 0 *ℤ (d p *ℤ path K parts n p))
      ∙ ap₂ ◌+ℤ◌ (T.scale D (λ p. d p *ℤ d p)) (T.scale (negsuc 0) (λ p. d p *ℤ path K parts n p))
      ∙ ap₂ (λ x y. D *ℤ x +ℤ negsuc 0 *ℤ y) (sym squares_are) (along n ∙ sum_cong K (λ v _. ap (λ z. n v *ℤ z) (sym (splits_are v))))
      ∙ by-ring (D ∷ sum_f S K parts d (pos 1) (λ _. pos 0) ∷ sum K (λ v. n v *ℤ edge_sum S K parts d (pos 1) (λ _. pos 0) v) ∷ []) (search quote depth 20) tt
