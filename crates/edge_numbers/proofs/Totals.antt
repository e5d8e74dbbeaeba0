-- Totals gathered modulo 2^64, read back where they fit 63 bits.
use Rattle.std.proofs.Common.{◌≡◌, ℕ, ◌+◌, ◌*◌, ◌^◌, ◌<◌, ◌≤◌, List, [], ◌∷◌, length, get_or, ℤ, pos, negsuc, ◌+ℤ◌, ◌*ℤ◌, neg_ℤ, nat_abs, sym, refl, ap, ◌∙◌, subst, ap₂, arith, w64, SFits}
use lib.IntN.{+ℤ_idl}
use Rattle.exact.specs.Fits.{Fits63}
use Rattle.exact.specs.Modulo.{Modulo}
use Rattle.exact.specs.Order.{◌≤ᶻ◌}
use Rattle.exact.specs.Sum.{sum, pairs}
use Rattle.exact.specs.Table.{entry_of}
use Rattle.exact.specs.LeastSquares.{sq, sum_f, sum_x, sum_r, sum_h}
use Rattle.exact.proofs.Modular.{modulo_is}
use Rattle.exact.proofs.Order.{≤-pos}
use Rattle.exact.proofs.Quote.{by-ring, quote}
use Rattle.exact.proofs.Sign.{fits_abs}
use Rattle.exact.proofs.Sum.{sum_cong, pairs-sums}
use Rattle.matrix.specs.Place.{pair_count}
use Rattle.tree_theory.specs.Chain.{parent_of, parts_pair}
use Rattle.path_sums.specs.Sums.{path_sum, PathSums}
use Rattle.splits.specs.Sums.{entry_at, split_of}
use Rattle.edge_numbers.specs.Squares.{square_at}
use Rattle.edge_numbers.specs.Taken.{TakenOff}
use Rattle.edge_numbers.proofs.Weights.{weighted_to}
use Rattle.edge_numbers.proofs.ByEdges.{sum-f-by, sum-x-by, sum-h-by, squares_in_order}

-- a number that is not negative is its magnitude
pub whole : (z : ℤ) → pos 0 ≤ᶻ z → z ≡ pos (nat_abs z)
whole (pos n) h = refl
whole (negsuc n) h = absurd h.le

pub between : (z : ℤ) (b : ℕ) → pos 0 ≤ᶻ z → z ≤ᶻ pos b → nat_abs z ≤ b
between (pos n) b h k = ≤-pos k
between (negsuc n) b h k = absurd h.le

-- the accumulator of a total that fits
pub gathered-is : (acc : ℕ) (z : ℤ) → acc < 2 ^ 64 → Fits63 z → Modulo acc z → pos acc ≡ z
gathered-is acc z small fits h =
    let e : z ≡ pos (nat_abs z) = whole z fits.low in
    ap pos (modulo_is acc (nat_abs z) small (omega (arith, between z 9223372036854775807 fits.low fits.high)) (subst (Modulo acc) e h)) ∙ sym e

pub gathered-high : (acc : ℕ) (z : ℤ) → Fits63 z → pos acc ≡ z → acc ≤ 9223372036854775807
gathered-high acc z fits e = ≤-pos (subst (λ y. y ≤ᶻ pos 9223372036854775807) (sym e) fits.high)

-- a number that fits 63 bits comes back as it went in
pub fits-of : (z y : ℤ) → z ≡ y → Fits63 y → SFits w64 z
fits-of z y e f = fits_abs z (omega (arith, ap nat_abs e, between y 9223372036854775807 f.low f.high))

-- ---- F, by what is taken off
module _ (N K D : ℕ) (ds ps : List ℕ) (ns taken : List ℤ) (t : TakenOff N K ds (parent_of ps) taken) (squares : ℕ) (e : pos squares ≡ sum (pair_count N) (λ k. square_at ds k)) where
  all-squares : pos squares ≡ pairs N (λ p. sq (entry_at ds p))
  all-squares = e ∙ squares_in_order ds N

  pub f-gathered : (r : ℕ) → Modulo r (pos (D * squares) +ℤ weighted_to ns taken K)
      → Modulo r (sum_f (pairs N) K (parts_pair (parent_of ps)) (entry_at ds) (pos D) (entry_of ns))
  f-gathered r m = subst (Modulo r)
      (ap₂ ◌+ℤ◌ (ap (λ y. pos D *ℤ y) all-squares) (sum_cong K (λ v h. ap (λ y. entry_of ns v *ℤ y) (t.entries v h)))
      ∙ sym (sum-f-by (pairs-sums N) K (parts_pair (parent_of ps)) (entry_at ds) (pos D) (entry_of ns)))
      m

-- ---- R, by what is taken off and the paths over the rounded lengths
module _ (N K : ℕ) (ds ps : List ℕ) (ms mixed : List ℤ)
    (t : (v : ℕ) → v < K → entry_of mixed v ≡ pos 2000 *ℤ (negsuc 0 *ℤ split_of N ds (parent_of ps) v) +ℤ pos 1 *ℤ path_sum N K (parent_of ps) (entry_of ms) v) (squares : ℕ) (e : pos squares ≡ sum (pair_count N) (λ k. square_at ds k)) where
  one-edge : (s p : ℤ) → pos 2000 *ℤ (negsuc 0 *ℤ s) +ℤ pos 1 *ℤ p ≡ neg_ℤ (pos 2 *ℤ pos 1000) *ℤ s +ℤ p
  one-edge s p = by-ring (s ∷ p ∷ []) (search quote depth 20) tt

  pub r-gathered : (r : ℕ) → Modulo r (pos (1000000 * squares) +ℤ weighted_to ms mixed K)
      → Modulo r (sum_r (pairs N) K (parts_pair (parent_of ps)) (entry_at ds) (entry_of ms))
  r-gathered r m = subst (Modulo r)
      (ap₂ ◌+ℤ◌ (ap (λ y. pos 1000 *ℤ pos 1000 *ℤ y) (e ∙ squares_in_order ds N))
      (sum_cong K (λ v h. ap (λ y. entry_of ms v *ℤ y) (t v h ∙ one-edge (split_of N ds (parent_of ps) v) (path_sum N K (parent_of ps) (entry_of ms) v))))
      ∙ sym (sum-x-by (pairs-sums N) K (parts_pair (parent_of ps)) (entry_at ds) (pos 1000) (entry_of ms)))
      m

-- ---- H, by the paths over ones
module _ (N K : ℕ) (par : ℕ → ℕ) (ones paths : List ℤ) (one : (v : ℕ) → v < K → entry_of ones v ≡ pos 1) (t : PathSums N K par (entry_of ones) paths) where
  pub h-gathered : (r : ℕ) → Modulo r (pos 0 +ℤ weighted_to ones paths K) → Modulo r (sum_h (pairs N) K (parts_pair par))
  h-gathered r m = subst (Modulo r)
      (+ℤ_idl (weighted_to ones paths K) ∙ sum_cong K (λ v h. ap (λ y. entry_of ones v *ℤ y) (t.entries v h))
      ∙ sym (sum-h-by (pairs-sums N) K (parts_pair par) (λ _. pos 0) (entry_of ones) one))
      m
