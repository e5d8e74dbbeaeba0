-- Sums of squares over the pairs: R and H. The idea: no square is negative, so a running sum is never above the whole, which fits by what
-- is asked of it; and H is such a sum too, since with no distances and 1 for each edge a remainder is the number of edges, taken off 0.
use mathlib.Core.Path.{◌≡◌, sym, ap, ap₂, ◌∙◌, subst}
use mathlib.Core.Bool.{Bool}
use mathlib.Core.List.{List, [], ◌∷◌}
use Prim.Native.Nat.{ℕ, suc, ◌+◌, ◌≤◌, ◌<◌, ◌^◌}
use native.Mathlib.Numerals.{add-one}
use native.Mathlib.Omega.{arith}
use lib.IntN.{ℤ, pos, nat_abs, ◌+ℤ◌, ◌-ℤ◌, ◌*ℤ◌}
use mir.Syntax.{w64}
use mir.Val.{SFits, to_z, of_z}
use Rattle.exact.specs.Sum.{sweep, pairs}
use Rattle.exact.specs.LeastSquares.{sq, hops, sum_x, sum_h}
use Rattle.exact.specs.Table.{table, entry_of}
use Rattle.exact.proofs.Order.{nn-sq, ≤_trans}
use Rattle.exact.proofs.Quote.{by-ring, quote}
use Rattle.exact.proofs.Sign.{fits_abs, back}
use Rattle.exact.proofs.Sum.{pairs-sums, S-cong, S-sq}
use Rattle.exact.proofs.Sweep.{sweep-step, sweep-nn, sweep-le, term-le}
use Rattle.matrix.specs.Limits.{max_strains}
use Rattle.tree_theory.specs.Limits.{max_edges}
use Rattle.fit_theory.proofs.Demand3.{h-high}
use Rattle.exact.specs.Fits.{Fits63}
use Rattle.inner_paths.proofs.Reaching.{few}
use Rattle.edge_numbers.proofs.Totals.{between}
use Rattle.edge_numbers.proofs.ByEdges.{path-ones}
use Rattle.edge_numbers.proofs.OneEach.{one, ones-lengthened}
use Rattle.fit_numbers.specs.Terms.{Summable}

abbrev pub square_of : (ℕ × ℕ → ℤ) → ℕ × ℕ → ℤ
square_of r p = sq (r p)

-- ---- a running sum, whose whole fits
module _ (n : ℕ) (r : ℕ × ℕ → ℤ) (fits : Fits63 (pairs n (square_of r))) (i j : ℕ) (rising : i < j) (strain : j < n) where
  square-small : nat_abs (square_of r (i, j)) < 2 ^ 63
  square-small = omega (
    arith,
    between (square_of r (i, j)) 9223372036854775807 (nn-sq (r (i, j)))
        (≤_trans (term-le n (square_of r) (λ p _ _. nn-sq (r p)) i j rising strain) fits.high),
  )

  sum-small : nat_abs (sweep (square_of r) j (suc i)) < 2 ^ 63
  sum-small = omega (
    arith,
    between (sweep (square_of r) j (suc i)) 9223372036854775807 (sweep-nn n (square_of r) (λ p _ _. nn-sq (r p)) j (suc i) strain rising)
        (≤_trans (sweep-le n (square_of r) (λ p _ _. nn-sq (r p)) j (suc i) strain rising) fits.high),
  )

  -- off is the remainder as the code reads it, s the running sum
  module _ (off : ℤ) (e : off ≡ r (i, j)) where
    off_small : nat_abs (off *ℤ off) < 2 ^ 63
    off_small = omega (arith, ap (λ z. nat_abs (sq z)) e, square-small)

    pub square-fits : SFits w64 (off *ℤ off)
    square-fits = fits_abs (off *ℤ off) off_small

    module _ (s : ℤ) (g : s ≡ sweep (square_of r) j i) where
      more : s +ℤ to_z w64 (of_z w64 (off *ℤ off)) ≡ sweep (square_of r) j (suc i)
      more = ap₂ ◌+ℤ◌ g (back (off *ℤ off) off_small ∙ ap sq e) ∙ sym (sweep-step (square_of r) j i)

      near : nat_abs (s +ℤ to_z w64 (of_z w64 (off *ℤ off))) < 2 ^ 63
      near = omega (arith, ap nat_abs more, sum-small)

      pub squares-fit : SFits w64 (s +ℤ to_z w64 (of_z w64 (off *ℤ off)))
      squares-fit = fits_abs (s +ℤ to_z w64 (of_z w64 (off *ℤ off))) near

      pub squares-next : to_z w64 (of_z w64 (s +ℤ to_z w64 (of_z w64 (off *ℤ off)))) ≡ sweep (square_of r) j (i + 1)
      squares-next = back (s +ℤ to_z w64 (of_z w64 (off *ℤ off))) near ∙ more ∙ ap (sweep (square_of r) j) (sym (add-one i))

-- ---- H is small
pub h_fits : (K : ℕ) → K ≤ max_edges → (parts : ℕ → ℕ × ℕ → Bool) (N : ℕ) → N ≤ max_strains → Fits63 (sum_h (pairs N) K parts)
h_fits K k parts N small = record { low = S-sq (pairs-sums N) (hops K parts); high = ≤_trans (h-high K k parts N small) (record { le = tt }) }

-- ---- H, by a table of ones
module _ (xs : List ℤ) (e : xs ≡ table max_edges (λ _. pos 1)) {N K D : ℕ} {ds ps : List ℕ} {ns : List ℤ} (w : Summable N K D ds ps ns) where
  module _ (parts : ℕ → ℕ × ℕ → Bool) (d : ℕ × ℕ → ℤ) where
    pub squares-ones : sum_x (pairs N) K parts d (pos 0) (entry_of xs) ≡ sum_h (pairs N) K parts
    squares-ones = S-cong (pairs-sums N) (λ p. ap (λ (y : ℤ). sq (pos 0 *ℤ d p -ℤ y)) (path-ones (pairs-sums N) K parts d (entry_of xs) (one xs e w.lengthened.allowed) p) ∙ by-ring (d p ∷ hops K parts p ∷ []) (search quote depth 20) tt)

    pub ones-fit : Fits63 (sum_x (pairs N) K parts d (pos 0) (entry_of xs))
    ones-fit = subst Fits63 (sym squares-ones) (h_fits K (few w.lengthened) parts N w.lengthened.allowed.few)

  pub ones-summable : Summable N K 0 ds ps xs
  ones-summable = record {
    lengthened = ones-lengthened xs e w.lengthened.room w.lengthened.allowed;
    most = omega arith;
    room = w.room;
    near = w.near;
  }
