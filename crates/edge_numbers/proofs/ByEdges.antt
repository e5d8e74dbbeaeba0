-- Sums over pairs, edge by edge, over any incidence. The idea: a path is a sum over edges, so a sum of paths, each weighed by its pair, is a sum over the
-- edges of what the weights of the pairs that it parts come to.
use Rattle.std.proofs.Common.{◌≡◌, ℕ, zero, suc, ◌+◌, ◌<◌, Bool, List, [], ◌∷◌, get_or, ℤ, pos, negsuc, ◌+ℤ◌, ◌-ℤ◌, ◌*ℤ◌, neg_ℤ, sym, refl, ap, ◌∙◌, ap₂, arith}
use Rattle.exact.specs.Sum.{sum, pairs, ind, Sums}
use Rattle.exact.specs.LeastSquares.{sq, path, hops, remainder, edge_sum, sum_f, sum_x, sum_h}
use Rattle.exact.proofs.Quote.{by-ring, quote}
use Rattle.exact.proofs.Ring.{*ℤ-oneʳ}
use Rattle.exact.proofs.Sum.{sum_cong, sum-+, sum-*, sum-join, S-cong, S-swap}
use Rattle.matrix.specs.Place.{pair_count, place}
use Rattle.matrix.proofs.Places.{count-more}
use Rattle.edge_numbers.specs.Squares.{square_at}

module _ {I : Type 0} {S : (I → ℤ) → ℤ} (T : Sums S) (K : ℕ) (parts : ℕ → I → Bool) where
  -- paths weighed by f
  along : (f : I → ℤ) (x : ℕ → ℤ) → S (λ p. f p *ℤ path K parts x p) ≡ sum K (λ v. x v *ℤ S (λ p. ind (parts v p) *ℤ f p))
  unfolding path
  along f x =
      S-cong T (λ p. sym (sum-* K (f p) (λ v. ind (parts v p) *ℤ x v)) ∙ sum_cong K (λ v _. by-ring (f p ∷ ind (parts v p) ∷ x v ∷ []) (search quote depth 20) tt))
      ∙ S-swap T K (λ v p. x v *ℤ (ind (parts v p) *ℤ f p))
      ∙ sum_cong K (λ v _. T.scale (x v) (λ p. ind (parts v p) *ℤ f p))

  module _ (d : I → ℤ) where
    abbrev split_at : ℕ → ℤ
    split_at v = S (λ p. ind (parts v p) *ℤ d p)

    abbrev paths_at : (ℕ → ℤ) → ℕ → ℤ
    paths_at x v = S (λ p. ind (parts v p) *ℤ path K parts x p)

    -- an edge's sum of remainders
    pub edge-sum-by : (D : ℤ) (n : ℕ → ℤ) (v : ℕ) → edge_sum S K parts d D n v ≡ D *ℤ split_at v +ℤ negsuc 0 *ℤ paths_at n v
    edge-sum-by D n v =
        S-cong T (λ p. by-ring (ind (parts v p) ∷ D ∷ d p ∷ path K parts n p ∷ []) (search quote depth 20) tt)
        ∙ T.add (λ p. D *ℤ (ind (parts v p) *ℤ d p)) (λ p. negsuc 0 *ℤ (ind (parts v p) *ℤ path K parts n p))
        ∙ ap₂ ◌+ℤ◌ (T.scale D (λ p. ind (parts v p) *ℤ d p)) (T.scale (negsuc 0) (λ p. ind (parts v p) *ℤ path K parts n p))

    -- F
    pub sum-f-by : (D : ℤ) (n : ℕ → ℤ) → sum_f S K parts d D n ≡ D *ℤ S (λ p. sq (d p)) +ℤ sum K (λ v. n v *ℤ (negsuc 0 *ℤ split_at v))
    sum-f-by D n =
        S-cong T (λ p. by-ring (d p ∷ D ∷ path K parts n p ∷ []) (search quote depth 20) tt)
        ∙ T.add (λ p. D *ℤ (d p *ℤ d p)) (λ p. negsuc 0 *ℤ (d p *ℤ path K parts n p))
        ∙ ap₂ ◌+ℤ◌ (T.scale D (λ p. d p *ℤ d p)) (T.scale (negsuc 0) (λ p. d p *ℤ path K parts n p) ∙ ap (λ z. negsuc 0 *ℤ z) (along d n)
        ∙ sym (sum-* K (negsuc 0) (λ v. n v *ℤ split_at v)) ∙ sum_cong K (λ v _. by-ring (n v ∷ split_at v ∷ []) (search quote depth 20) tt))

    -- the squares of paths
    square-paths : (x : ℕ → ℤ) → S (λ p. sq (path K parts x p)) ≡ sum K (λ v. x v *ℤ paths_at x v)
    square-paths x = along (path K parts x) x

    -- X
    pub sum-x-by : (Q : ℤ) (x : ℕ → ℤ) → sum_x S K parts d Q x ≡ Q *ℤ Q *ℤ S (λ p. sq (d p)) +ℤ sum K (λ v. x v *ℤ (neg_ℤ (pos 2 *ℤ Q) *ℤ split_at v +ℤ paths_at x v))
    sum-x-by Q x =
        S-cong T (λ p. by-ring (Q ∷ d p ∷ path K parts x p ∷ []) (search quote depth 20) tt)
        ∙ T.add (λ p. Q *ℤ Q *ℤ sq (d p)) (λ p. neg_ℤ (pos 2 *ℤ Q) *ℤ (d p *ℤ path K parts x p) +ℤ sq (path K parts x p))
        ∙ ap₂ ◌+ℤ◌ (T.scale (Q *ℤ Q) (λ p. sq (d p)))
        (T.add (λ p. neg_ℤ (pos 2 *ℤ Q) *ℤ (d p *ℤ path K parts x p)) (λ p. sq (path K parts x p))
        ∙ ap₂ ◌+ℤ◌ (T.scale (neg_ℤ (pos 2 *ℤ Q)) (λ p. d p *ℤ path K parts x p) ∙ ap (λ z. neg_ℤ (pos 2 *ℤ Q) *ℤ z) (along d x) ∙ sym (sum-* K (neg_ℤ (pos 2 *ℤ Q)) (λ v. x v *ℤ split_at v))) (square-paths x)
        ∙ sym (sum-+ K (λ v. neg_ℤ (pos 2 *ℤ Q) *ℤ (x v *ℤ split_at v)) (λ v. x v *ℤ paths_at x v))
        ∙ sum_cong K (λ v _. by-ring (neg_ℤ (pos 2 *ℤ Q) ∷ x v ∷ split_at v ∷ paths_at x v ∷ []) (search quote depth 20) tt))

    -- H, by ones
    pub path-ones : (x : ℕ → ℤ) → ((v : ℕ) → v < K → x v ≡ pos 1) → (p : I) → path K parts x p ≡ hops K parts p
    unfolding path hops
    path-ones x one p = sum_cong K (λ v h. ap (λ y. ind (parts v p) *ℤ y) (one v h) ∙ *ℤ-oneʳ (ind (parts v p)))

    pub sum-h-by : (x : ℕ → ℤ) → ((v : ℕ) → v < K → x v ≡ pos 1) → sum_h S K parts ≡ sum K (λ v. x v *ℤ paths_at x v)
    sum-h-by x one = S-cong T (λ p. ap sq (sym (path-ones x one p))) ∙ square-paths x

-- ---- the squares of a matrix, in the order of its pairs
pub squares_in_order : (ds : List ℕ) (n : ℕ) → sum (pair_count n) (square_at ds) ≡ pairs n (λ p. sq (pos (get_or ds (place p.0 p.1) 0)))
unfolding pairs sum place
squares_in_order ds zero = refl
squares_in_order ds (suc n) = let ih = squares_in_order ds n in
    ap (λ (k : ℕ). sum k (square_at ds)) (count-more n) ∙ sum-join (pair_count n) n (square_at ds) ∙ ap (λ z. z +ℤ sum n (λ i. square_at ds (pair_count n + i))) ih
