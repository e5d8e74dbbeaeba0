-- RULES, The verdict and Least squares, of a resolved tree's lengths, over any common denominator, and R's range that
-- they bring. There is a common denominator (`common`), so R is that of a rounding close to a fit.
use mathlib.Core.Path.{◌≡◌, refl, sym, ◌∙◌, ap, ap₂, subst}
use mathlib.Core.Bool.{Bool, cond}
use mathlib.Core.List.{[], ◌∷◌}
use mathlib.Core.Logic.{◌≢◌}
use Prim.Native.Nat.{ℕ, zero, suc, ◌*◌, ◌≤◌, ◌<◌}
use native.Mathlib.Decide.{ℕ_discrete}
use native.Mathlib.Omega.{arith}
use lib.Dec.{eqb}
use lib.IntN.{ℤ, pos, neg_ℤ, ◌+ℤ◌, ◌-ℤ◌, ◌*ℤ◌, nat_abs}
use Rattle.exact.specs.Order.{◌≤ᶻ◌, ◌<ᶻ◌, Within}
use Rattle.exact.specs.Sum.{pairs}
use Rattle.exact.specs.LeastSquares.{remainder, Equations, Near, Minimum, Rounding, Any, sum_r}
use Rattle.exact.specs.Nearest.{nearest}
use Rattle.exact.proofs.Decide.{by_cases, eq_yes, eq_no}
use Rattle.exact.proofs.Quote.{by-ring, quote, eq_by, z_sub, z*}
use Rattle.exact.proofs.Order.{≤_trans, pos-≤, is-<, <-is, *-cancel, le-by, nn_sub, nn*, nn-pos}
use Rattle.exact.proofs.Sum.{pairs-sums, S-sq}
use Rattle.exact.proofs.Sign.{within→abs}
use Rattle.exact.proofs.LeastSquares.{minimum, rounding}
use Rattle.exact.proofs.Rounding.{nearest-near}
use Rattle.tree_theory.specs.Chain.{parts_pair}
use Rattle.tree_theory.specs.Allowed.{Allowed}
use Rattle.exact.specs.Fits.{Fits63}
use Rattle.fit_theory.proofs.Demand3.{close-high}
use Rattle.exact.specs.Fraction.{Fraction, lowest_top, lowest_bottom, Lowest}
use Rattle.direct_theory.specs.Children.{Resolved}
use Rattle.direct_theory.specs.Formula.{edge_length}
use Rattle.direct_theory.specs.Splits.{split_at, length_by}
use Rattle.direct_theory.specs.Lengths.{Over}
use Rattle.direct_theory.proofs.Quartet.{pos*}
use Rattle.exact.proofs.Divisors.{lowest-is, lowest-of}
use Rattle.direct_theory.proofs.BySplits.{edge-positive}
use Rattle.direct_theory.proofs.Reduced.{Unreduced, unreduced, bottom-most, top-near, rounded-near}
use Rattle.direct_theory.proofs.Equations.{equations}

-- the product of the denominators serves
pub common : (K : ℕ) (num : ℕ → ℤ) (den : ℕ → ℕ) → ((v : ℕ) → v < K → 1 ≤ den v) → (D : ℤ) × (n : ℕ → ℤ) × Over K num den D n
common zero num den some = (pos 1, (λ _. pos 0), record { positive = record { lt = tt }; same = λ v l. absurd (omega arith) })
common (suc K) num den some = let (D, n, o) = common K num den (λ v l. some v (omega arith)) in (
  D *ℤ pos (den K),
  (λ v. cond (eqb v K) (D *ℤ num K) (n v *ℤ pos (den K))),
  record {
    positive = pos* o.positive (is-< (pos-≤ (some K (omega arith))));
    same = λ v l. by_cases (ℕ_discrete v K)
        (λ e. ap (λ b. cond b (D *ℤ num K) (n v *ℤ pos (den K)) *ℤ pos (den v)) (eq_yes e) ∙ last D (num K) (num v) (den K) (den v) (ap num (sym e)) (ap den (sym e)))
        (λ e. ap (λ b. cond b (D *ℤ num K) (n v *ℤ pos (den K)) *ℤ pos (den v)) (eq_no e) ∙ before D (n v) (num v) (pos (den K)) (pos (den v)) (o.same v (omega arith)));
  },
)
  where
    last : (D x y : ℤ) (p q : ℕ) → x ≡ y → p ≡ q → D *ℤ x *ℤ pos q ≡ D *ℤ pos p *ℤ y
    last D x y p q e f = ap₂ (λ a b. D *ℤ a *ℤ pos b) e (sym f) ∙ by-ring (D ∷ y ∷ pos p ∷ []) (search quote depth 20) tt

    before : (D n x p q : ℤ) → n *ℤ q ≡ D *ℤ x → n *ℤ p *ℤ q ≡ D *ℤ p *ℤ x
    before D n x p q e = eq_by (z* p (z_sub e)) (by-ring (D ∷ n ∷ x ∷ p ∷ q ∷ []) (search quote depth 20) tt)

-- the rounding of num over den is as near to n over D
near-over : (num : ℤ) (den : ℕ) (D n : ℤ) → 1 ≤ den → pos 0 <ᶻ D → n *ℤ pos den ≡ D *ℤ num → Within D (pos 2 *ℤ (pos 1000 *ℤ n -ℤ D *ℤ nearest den num))
near-over num den D n some p e = record {
  low = *-cancel {c = pos den} (is-< (pos-≤ some)) (le-by (nn* nn_d (nn_sub w.low)) (turn_low D n num (pos den) m e));
  high = *-cancel {c = pos den} (is-< (pos-≤ some)) (le-by (nn* nn_d (nn_sub w.high)) (turn-high D n num (pos den) m e));
}
  where
    m : ℤ
    m = nearest den num

    w : Within (pos den) (pos 2 *ℤ (pos 1000 *ℤ num -ℤ pos den *ℤ m))
    w = nearest-near den num some

    nn_d : pos 0 ≤ᶻ D
    nn_d = ≤_trans (le-by (nn-pos 1) (by-ring [] (search quote depth 20) tt)) (<-is p)

    turn_low : (D n x q m : ℤ) → n *ℤ q ≡ D *ℤ x → q *ℤ (pos 2 *ℤ (pos 1000 *ℤ n -ℤ D *ℤ m)) -ℤ q *ℤ neg_ℤ D ≡ D *ℤ (pos 2 *ℤ (pos 1000 *ℤ x -ℤ q *ℤ m) -ℤ neg_ℤ q)
    turn_low D n x q m e = eq_by (z* (pos 2000) (z_sub e)) (by-ring (D ∷ n ∷ x ∷ q ∷ m ∷ []) (search quote depth 20) tt)

    turn-high : (D n x q m : ℤ) → n *ℤ q ≡ D *ℤ x → q *ℤ D -ℤ q *ℤ (pos 2 *ℤ (pos 1000 *ℤ n -ℤ D *ℤ m)) ≡ D *ℤ (q -ℤ pos 2 *ℤ (pos 1000 *ℤ x -ℤ q *ℤ m))
    turn-high D n x q m e = eq_by (z* (neg_ℤ (pos 2000)) (z_sub e)) (by-ring (D ∷ n ∷ x ∷ q ∷ m ∷ []) (search quote depth 20) tt)

module _ (N K : ℕ) (par : ℕ → ℕ) (ok : Allowed N K par) (res : Resolved N K par) (d : ℕ × ℕ → ℤ) (range : (p : ℕ × ℕ) → (pos 0 ≤ᶻ d p) × (d p ≤ᶻ pos 50000)) where
  abbrev num : ℕ → ℤ
  num v = lowest_top (edge_length N K par d v)

  abbrev den : ℕ → ℕ
  den v = lowest_bottom (edge_length N K par d v)

  abbrev pub rounded : ℕ → ℤ
  rounded v = nearest (den v) (num v)

  pub in_lowest : (v : ℕ) → v < K → Lowest (edge_length N K par d v) (num v) (den v)
  in_lowest v l = lowest-is (edge_length N K par d v) (edge-positive N K par ok res d v l)

  -- by split sums
  facts : (v : ℕ) → v < K → Unreduced (length_by N K par (split_at N par d) v) (edge_length N K par d v)
  facts v l = unreduced N K par ok res d range (split_at N par d) (λ u k. refl) v l

  by-splits : (v : ℕ) → v < K → Lowest (length_by N K par (split_at N par d) v) (num v) (den v)
  by-splits v l = lowest-of (edge_length N K par d v) (length_by N K par (split_at N par d) v) (num v) (den v) (edge-positive N K par ok res d v l) (facts v l).same (in_lowest v l)

  pub den-most : (v : ℕ) → v < K → den v ≤ 134217728
  den-most v l = bottom-most (length_by N K par (split_at N par d) v) (edge_length N K par d v) (facts v l) (num v) (den v) (by-splits v l)

  pub rounded-small : (v : ℕ) → v < K → nat_abs (rounded v) ≤ 50000001
  rounded-small v l = rounded-near (den v) (num v) (in_lowest v l).positive (top-near (length_by N K par (split_at N par d) v) (edge_length N K par d v) (facts v l) (num v) (den v) (by-splits v l))

  -- the verdict's equations over any common denominator
  pub meets-all : (D : ℤ) (n : ℕ → ℤ) → Over K num den D n → Equations (pairs N) K (parts_pair par) d D n
  meets-all D n o = equations N K par ok res d num den (λ c l. ((in_lowest c l).value, (in_lowest c l).positive)) D n o.same

  pub is-minimum : (D : ℤ) (n : ℕ → ℤ) → Over K num den D n → Minimum (pairs N) K (parts_pair par) d D n Any
  is-minimum D n o = minimum (pairs-sums N) K (parts_pair par) d D n (meets-all D n o)

  pub is-rounding : (D : ℤ) (n : ℕ → ℤ) → Over K num den D n → Rounding (pairs N) K (parts_pair par) d D n rounded Any
  is-rounding D n o = rounding (pairs-sums N) K (parts_pair par) d D n (meets-all D n o) rounded o.positive
      (λ v l. near-over (num v) (den v) D (n v) (in_lowest v l).positive o.positive (o.same v l))

  -- so R fits
  pub r-fits : Fits63 (sum_r (pairs N) K (parts_pair par) d rounded)
  r-fits = let (D, n, o) = common K num den (λ v l. (in_lowest v l).positive) in record {
    low = S-sq (pairs-sums N) (remainder K (parts_pair par) d (pos 1000) rounded);
    high = ≤_trans (close-high K d (omega (arith, ok.few, ok.most)) (λ p. near p) (parts_pair par) N ok.few Any record {} D n rounded (is-rounding D n o)) (record { le = tt });
  }
    where
      near : (p : ℕ × ℕ) → nat_abs (d p) ≤ 50000
      near p = within→abs 50000 (d p) (record { low = ≤_trans (le-by (nn-pos 50000) (by-ring [] (search quote depth 20) tt)) (range p).0; high = (range p).1 })
