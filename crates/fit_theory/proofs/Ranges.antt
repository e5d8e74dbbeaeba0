-- How large the quantities of a proposal can become, for any incidence of at most 125 edges and at most 64 strains.
-- `path-range`, `scaled-range`, `remainder-range`, `product-range`: of one pair, for the edges' sums and F.
-- `rounded-range`: of m.
-- `hops-low`, `hops-high`, `hops-sweep`: of the number of edges of a path, and of the running sum of squares that ends as H.
-- `mul_abs`, `path_abs`: of a product, and of a path over any table.
-- `distance-near`, `bounds`: what the checks of a matrix and of lengths say of their entries.
use mathlib.Core.Path.{◌≡◌}
use mathlib.Core.Bool.{Bool}
use mathlib.Core.List.{List}
use mathlib.Core.Logic.{◌⊎◌, inl, inr}
use Prim.Native.Nat.{ℕ, ◌*◌, ◌≤◌, ◌<◌}
use native.Mathlib.Nat.{mul-le-mul, mul-le-mul_right}
use native.Mathlib.Omega.{arith}
use lib.IntN.{ℤ, pos, ◌+ℤ◌, ◌*ℤ◌, nat_abs}
use lib.ListN.{length, get_or, get_or-eq_default}
use Rattle.exact.specs.Order.{◌≤ᶻ◌}
use Rattle.exact.specs.Sum.{ind, sweep}
use Rattle.exact.specs.LeastSquares.{sq, path, hops, remainder}
use Rattle.exact.specs.Nearest.{nearest}
use Rattle.exact.proofs.Sum.{sum-nn, ind-nn}
use Rattle.exact.proofs.Sign.{nat_abs_sub, nat_abs_mul, abs→within, lt_or_ge}
use Rattle.exact.proofs.Rounding.{nearest-bound}
use Rattle.exact.proofs.Sweep.{sum_abs, ind-one, chosen-sum_abs, sweep-within}
use Rattle.matrix.specs.Place.{place, distance}
use Rattle.matrix.specs.Proper as matrix
use Rattle.matrix.proofs.Completes.{known-near}
use Rattle.lengths.specs.Proper as lengths
use Rattle.exact.specs.Table.{entry_of}

-- what the limits of RULES say of a proposal with K edges
pub record Bounds (K : ℕ) (d : ℕ × ℕ → ℤ) (D : ℕ) (n : ℕ → ℤ) : Type 0 where
  pub few : K ≤ 125
  pub most : D ≤ 1000000
  pub distances : (p : ℕ × ℕ) → nat_abs (d p) ≤ 50000
  pub numerators : (v : ℕ) → v < K → nat_abs (n v) ≤ 100000000000

-- no distance is above 50,000
pub distance-near : {N : ℕ} {ds : List ℕ} → matrix.Proper N ds → (p : ℕ × ℕ) → nat_abs (distance ds p) ≤ 50000
distance-near m p = known-near m (place p.0 p.1)

pub bounds : {N : ℕ} {ds : List ℕ} {K D : ℕ} {ns : List ℤ} → matrix.Proper N ds → lengths.Proper K D ns → Bounds K (distance ds) D (entry_of ns)
bounds m l = record {
  few = l.few;
  most = l.most;
  distances = distance-near m;
  numerators = λ v h. l.near v (omega (arith, l.whole));
}

-- ---- products
pub mul_abs : (x y : ℤ) (a b : ℕ) → nat_abs x ≤ a → nat_abs y ≤ b → nat_abs (x *ℤ y) ≤ a * b
mul_abs x y a b h k = omega (arith, nat_abs_mul x y, mul-le-mul {n₁ = nat_abs x} {m₁ = nat_abs y} {n₂ = a} {m₂ = b} h k)

-- ---- a path over at most 125 edges
pub path_abs : (K : ℕ) (parts : ℕ → ℕ × ℕ → Bool) (x : ℕ → ℤ) (b : ℕ) → K ≤ 125 → ((v : ℕ) → v < K → nat_abs (x v) ≤ b)
    → (p : ℕ × ℕ) → nat_abs (path K parts x p) ≤ 125 * b
unfolding path
path_abs K parts x b few h p = omega (
  arith,
  chosen-sum_abs K b (λ v. parts v p) x h,
  mul-le-mul_right b few,
)

module _ {K : ℕ} {d : ℕ × ℕ → ℤ} {D : ℕ} {n : ℕ → ℤ} (w : Bounds K d D n) (parts : ℕ → ℕ × ℕ → Bool) where
  pub path-range : (p : ℕ × ℕ) → nat_abs (path K parts n p) ≤ 12500000000000
  path-range p = path_abs K parts n 100000000000 w.few w.numerators p

  pub scaled-range : (p : ℕ × ℕ) → nat_abs (pos D *ℤ d p) ≤ 50000000000
  scaled-range p = mul_abs (pos D) (d p) 1000000 50000 w.most (w.distances p)

  pub remainder-range : (p : ℕ × ℕ) → nat_abs (remainder K parts d (pos D) n p) ≤ 12550000000000
  remainder-range p = omega (arith, nat_abs_sub (pos D *ℤ d p) (path K parts n p), scaled-range p, path-range p)

  -- a term of F
  pub product-range : (p : ℕ × ℕ) → nat_abs (d p *ℤ remainder K parts d (pos D) n p) ≤ 627500000000000000
  product-range p = mul_abs (d p) (remainder K parts d (pos D) n p) 50000 12550000000000 (w.distances p) (remainder-range p)

  -- ---- the lengths in thousandths
  pub rounded-range : 1 ≤ D → (v : ℕ) → v < K → nat_abs (nearest D (n v)) ≤ 100000000000000
  rounded-range one v l = omega (arith, nearest-bound D (n v) one, w.numerators v l)

-- ---- the number of edges of a path
module _ (K : ℕ) (parts : ℕ → ℕ × ℕ → Bool) where
  pub hops-low : (p : ℕ × ℕ) → pos 0 ≤ᶻ hops K parts p
  unfolding hops
  hops-low p = sum-nn K (λ v. ind (parts v p)) (λ v _. ind-nn (parts v p))

  module _ (few : K ≤ 125) where
    hops_abs : (p : ℕ × ℕ) → nat_abs (hops K parts p) ≤ 125
    unfolding hops
    hops_abs p = omega (arith, sum_abs K 1 (λ v. ind (parts v p)) (λ v _. ind-one (parts v p)))

    pub hops-high : (p : ℕ × ℕ) → hops K parts p ≤ᶻ pos 125
    hops-high p = (abs→within 125 (hops K parts p) (hops_abs p)).high

    -- 2016 * 125²
    pub hops-sweep : (N : ℕ) → N ≤ 64 → (j i : ℕ) → j ≤ N → i ≤ j → (j < N) ⊎ (i ≡ 0)
        → nat_abs (sweep (λ p. sq (hops K parts p)) j i) ≤ 31500000
    hops-sweep N small j i l k place = sweep-within N 15625 (λ p. sq (hops K parts p)) small
        (λ p _ _. mul_abs (hops K parts p) (hops K parts p) 125 125 (hops_abs p) (hops_abs p)) j i l k place
