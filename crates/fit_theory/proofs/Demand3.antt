-- RULES, Least squares, and the ranges of F and R that it brings.
-- `f-low`, `f-high`: F is between 0 and 5,040,000,000,000,000,000, over any incidence where the table is a minimum.
-- `close-high`: R of any rounding that is close to a fit. `r-low`, `r-high`: R, likewise. `r-sweep`, `r-term`: its running sums, and the square of one pair.
-- `minimum-by`, `tops-by`: a fit under each rule is a minimum, and by how much at least.
-- `least`: what stands is a minimum, and its rounding is close to it. `r-range`: R of what stands.
use mathlib.Core.Path.{refl, sym, subst, subst₂}
use mathlib.Core.Bool.{Bool}
use mathlib.Core.List.{List, [], ◌∷◌}
use mathlib.Core.Logic.{inr}
use Prim.Native.Nat.{ℕ, ◌*◌, ◌≤◌, ◌<◌}
use native.Mathlib.Nat.{le_refl}
use native.Mathlib.Omega.{arith}
use lib.IntN.{ℤ, pos, ◌+ℤ◌, ◌*ℤ◌, nat_abs, *ℤ-zero}
use lib.ListN.{length}
use Rattle.exact.specs.Order.{◌≤ᶻ◌, ◌<ᶻ◌}
use Rattle.exact.specs.Sum.{pairs, sweep}
use Rattle.exact.specs.LeastSquares.{sq, path, hops, remainder, sum_f, sum_x, sum_r, sum_h, Near, Minimum, Rounding}
use Rattle.exact.specs.Nearest.{nearest}
use Rattle.exact.proofs.Quote.{by-ring, quote}
use Rattle.exact.proofs.Order.{nn+, nn*, nn-pos, nn-sq, nn_sub, le-by, pos-≤, is-<, *-cancel, *-mono, ≤_trans}
use Rattle.exact.proofs.Sum.{pairs-sums, S-sq}
use Rattle.exact.proofs.Sign.{nat_abs_sub, within→abs, abs→within}
use Rattle.exact.proofs.LeastSquares.{Tops, minimum, rounding, tops, minimum⁰, rounding⁰, tops⁰, paths-by}
use Rattle.exact.proofs.Rounding.{nearest-near}
use Rattle.exact.proofs.Sweep.{sweep-end, pairs_abs, sweep-nn, sweep-le, term-le}
use Rattle.matrix.specs.Place.{distance}
use Rattle.exact.specs.Table.{entry_of}
use Rattle.verdict.specs.declared.Rule.{Rule}
use Rattle.verdict.specs.declared.Rule.TheVariants.{Plain, Drawable}
use Rattle.fit_theory.specs.Quantities.{parts_of, parts_in, rounded_of, f_of, r_of}
use Rattle.fit_theory.specs.Stands.{FitBy, Against, Fitted, Stands, Least}
use Rattle.fit_theory.proofs.Ranges.{distance-near, mul_abs, path_abs, hops-sweep}

-- ---- over plain numbers
-- a number from 0 to b
between : (b : ℕ) (z : ℤ) → pos 0 ≤ᶻ z → z ≤ᶻ pos b → nat_abs z ≤ b
between b z low high = within→abs b z (record { low = ≤_trans (le-by (nn-pos b) (by-ring (pos b ∷ []) (search quote depth 20) tt)) low; high = high })

-- F ≤ D·X, from the comparison with lengths of 0
cancel_D : (D F X : ℤ) → pos 0 <ᶻ D → pos 1 *ℤ pos 1 *ℤ D *ℤ F ≤ᶻ D *ℤ D *ℤ X → F ≤ᶻ D *ℤ X
cancel_D D F X h k = *-cancel h (le-by (nn_sub k) (by-ring (D ∷ F ∷ X ∷ []) (search quote depth 20) tt))

-- R ≤ 1,000,000·X + H/4
cancel-4 : (R X H : ℤ) → pos 4 *ℤ (pos 1 *ℤ pos 1) *ℤ R ≤ᶻ pos 4000000 *ℤ X +ℤ pos 1 *ℤ pos 1 *ℤ H
    → X ≤ᶻ pos 5040000000000 → H ≤ᶻ pos 31500000 → R ≤ᶻ pos 5040000000007875000
cancel-4 R X H h x k = *-cancel {c = pos 4} (record { lt = tt })
    (le-by (nn+ (nn_sub h) (nn+ (nn* (nn-pos 4000000) (nn_sub x)) (nn_sub k))) (by-ring (R ∷ X ∷ H ∷ []) (search quote depth 20) tt))

-- ---- H over any incidence of few edges: at most 2016 * 125²
pub h-high : (K : ℕ) → K ≤ 125 → (parts : ℕ → ℕ × ℕ → Bool) (N : ℕ) → N ≤ 64 → sum_h (pairs N) K parts ≤ᶻ pos 31500000
h-high K few parts N small = (abs→within 31500000 (sum_h (pairs N) K parts) (subst (λ y. nat_abs y ≤ 31500000) (sweep-end (λ p. sq (hops K parts p)) N)
    (hops-sweep K parts few N small N 0 (le_refl N) (omega arith) (inr refl)))).high

-- ---- R of a rounding that is close to a fit, over any incidence of few edges and distances in range
module _ (K : ℕ) (d : ℕ × ℕ → ℤ) (few : K ≤ 125) (near : (p : ℕ × ℕ) → nat_abs (d p) ≤ 50000) (parts : ℕ → ℕ × ℕ → Bool) (N : ℕ) (small : N ≤ 64) where
  -- the sum of d², as X of lengths that are all 0: at most 2016 * 50000²
  zero-X : nat_abs (sum_x (pairs N) K parts d (pos 1) (λ _. pos 0)) ≤ 5040000000000
  zero-X = pairs_abs N 2500000000 (λ p. sq (remainder K parts d (pos 1) (λ _. pos 0) p)) small
      (λ p. mul_abs (remainder K parts d (pos 1) (λ _. pos 0) p) (remainder K parts d (pos 1) (λ _. pos 0) p) 50000 50000 (one p) (one p))
    where
      one : (p : ℕ × ℕ) → nat_abs (remainder K parts d (pos 1) (λ _. pos 0) p) ≤ 50000
      one p = omega (
        arith,
        nat_abs_sub (pos 1 *ℤ d p) (path K parts (λ _. pos 0) p),
        mul_abs (pos 1) (d p) 1 50000 (omega arith) (near p),
        path_abs K parts (λ _. pos 0) 0 few (λ v _. omega arith) p,
      )

  pub close-high : (Compared : ℤ → (ℕ → ℤ) → Type 0) → Compared (pos 1) (λ _. pos 0) → (D : ℤ) (n m : ℕ → ℤ) → Rounding (pairs N) K parts d D n m Compared → sum_r (pairs N) K parts d m ≤ᶻ pos 5040000000007875000
  close-high _ zeros D n m close = cancel-4 (sum_r (pairs N) K parts d m) X (sum_h (pairs N) K parts)
      (close.close (pos 1) (λ _. pos 0) zeros) (abs→within 5040000000000 X zero-X).high (h-high K few parts N small)
    where
      X : ℤ
      X = sum_x (pairs N) K parts d (pos 1) (λ _. pos 0)

-- ---- a fit under each rule
zeros_by : (rule : Rule) (K : ℕ) → Against rule K (pos 1) (λ _. pos 0)
zeros_by Plain K = record {}
zeros_by Drawable K = record { denominator = record { lt = tt }; entries = λ _ _. nn-pos 0 }

pub minimum-by : (rule : Rule) (N : ℕ) (ds ps : List ℕ) (D : ℕ) (ns : List ℤ) → pos 0 <ᶻ pos D → FitBy rule N ds ps D ns
    → Minimum (pairs N) (length ps) (parts_in ds ps) (distance ds) (pos D) (entry_of ns) (Against rule (length ps))
minimum-by Plain N ds ps D ns h fit = minimum (pairs-sums N) (length ps) (parts_in ds ps) (distance ds) (pos D) (entry_of ns) fit
minimum-by Drawable N ds ps D ns h fit = minimum⁰ (pairs-sums N) (length ps) (parts_in ds ps) (distance ds) (pos D) (entry_of ns) h fit

pub tops-by : (rule : Rule) (N : ℕ) (ds ps : List ℕ) (D : ℕ) (ns : List ℤ) → pos 0 <ᶻ pos D → FitBy rule N ds ps D ns
    → Tops (pairs N) (length ps) (parts_in ds ps) (distance ds) (pos D) (entry_of ns) (Against rule (length ps))
tops-by Plain N ds ps D ns h fit = tops (pairs-sums N) (length ps) (parts_in ds ps) (distance ds) (pos D) (entry_of ns) fit
tops-by Drawable N ds ps D ns h fit = tops⁰ (pairs-sums N) (length ps) (parts_in ds ps) (distance ds) (pos D) (entry_of ns) h fit

rounding-by : (rule : Rule) (N : ℕ) (ds ps : List ℕ) (D : ℕ) (ns : List ℤ) → pos 0 <ᶻ pos D → Near (length ps) (pos D) (entry_of ns) (rounded_of D ns)
    → FitBy rule N ds ps D ns
    → Rounding (pairs N) (length ps) (parts_in ds ps) (distance ds) (pos D) (entry_of ns) (rounded_of D ns) (Against rule (length ps))
rounding-by Plain N ds ps D ns h near fit = rounding (pairs-sums N) (length ps) (parts_in ds ps) (distance ds) (pos D) (entry_of ns) fit (rounded_of D ns) h near
rounding-by Drawable N ds ps D ns h near fit = rounding⁰ (pairs-sums N) (length ps) (parts_in ds ps) (distance ds) (pos D) (entry_of ns) h fit (rounded_of D ns) near

-- ---- a fit, over any denominator
module _ (rule : Rule) (N : ℕ) (ds ps : List ℕ) (D : ℕ) (ns : List ℤ) (s : Fitted rule N ds ps D ns) where
  few : length ps ≤ 125
  few = omega (arith, s.posted.tree.few, s.posted.tree.most)

  pub some-D : pos 0 <ᶻ pos D
  some-D = is-< (pos-≤ s.one)

  near : Near (length ps) (pos D) (entry_of ns) (rounded_of D ns)
  near v _ = nearest-near D (entry_of ns v) s.one

  zeros : Against rule (length ps) (pos 1) (λ _. pos 0)
  zeros = zeros_by rule (length ps)

  pub is-minimum : Minimum (pairs N) (length ps) (parts_in ds ps) (distance ds) (pos D) (entry_of ns) (Against rule (length ps))
  is-minimum = minimum-by rule N ds ps D ns some-D s.fit

  is-rounding : Rounding (pairs N) (length ps) (parts_in ds ps) (distance ds) (pos D) (entry_of ns) (rounded_of D ns) (Against rule (length ps))
  is-rounding = rounding-by rule N ds ps D ns some-D near s.fit

  -- the sum of d²
  X : ℤ
  X = sum_x (pairs N) (length ps) (parts_in ds ps) (distance ds) (pos 1) (λ _. pos 0)

  -- D·F is a sum of squares
  low : pos 0 ≤ᶻ f_of N ds ps D ns
  low = *-cancel some-D (subst₂ ◌≤ᶻ◌ (sym (*ℤ-zero (pos D))) (sym is-minimum.squares) (S-sq (pairs-sums N) (remainder (length ps) (parts_in ds ps) (distance ds) (pos D) (entry_of ns))))

  high : f_of N ds ps D ns ≤ᶻ pos D *ℤ pos 5040000000000
  unfolding X
  high = ≤_trans (cancel_D (pos D) (f_of N ds ps D ns) X some-D (is-minimum.least (pos 1) (λ _. pos 0) zeros))
      (*-mono (nn-pos D) (abs→within 5040000000000 X (zero-X (length ps) (distance ds) few (distance-near s.posted.matrix) (parts_in ds ps) N s.posted.matrix.few)).high)

  pub least : Least rule N ds ps D ns
  least = record {
    minimum = is-minimum;
    rounding = is-rounding;
    paths = paths-by (pairs-sums N) (length ps) (parts_of ps) (distance ds) (pos D) (entry_of ns) (rounded_of D ns) near;
    f-low = low;
    f-high = high;
  }

  pub r-range : (pos 0 ≤ᶻ r_of N ds ps D ns) × (r_of N ds ps D ns ≤ᶻ pos 5040000000007875000)
  r-range = (
    S-sq (pairs-sums N) (remainder (length ps) (parts_in ds ps) (distance ds) (pos 1000) (rounded_of D ns)),
    close-high (length ps) (distance ds) few (distance-near s.posted.matrix) (parts_in ds ps) N s.posted.matrix.few (Against rule (length ps)) zeros (pos D) (entry_of ns) (rounded_of D ns) is-rounding,
  )

-- of what stands: F is at most 5,040,000,000,000,000,000
pub f-range : (rule : Rule) (N : ℕ) (ds ps : List ℕ) (D : ℕ) (ns : List ℤ) → Stands rule N ds ps D ns → f_of N ds ps D ns ≤ᶻ pos 5040000000000000000
f-range rule N ds ps D ns s = ≤_trans (least rule N ds ps D ns s.fitted).f-high
    (abs→within 5040000000000000000 (pos D *ℤ pos 5040000000000) (mul_abs (pos D) (pos 5040000000000) 1000000 5040000000000 s.lengths.most (omega arith))).high
