-- What is mixed stays within an i64: a split sum times a denominator is small, and the paths of the pairs that an edge parts fit with room to spare.
use Rattle.std.proofs.Common.{◌≡◌, ℕ, ◌*◌, ◌^◌, ◌<◌, ◌≤◌, List, ℤ, negsuc, ◌+ℤ◌, ◌*ℤ◌, nat_abs, ap, mul-le-mul, arith}
use Rattle.exact.specs.Table.{entry_of}
use Rattle.exact.proofs.Sign.{nat_abs_add, nat_abs_mul}
use Rattle.tree_theory.specs.Limits.{max_edges}
use Rattle.tree_theory.specs.Chain.{parent_of}
use Rattle.tree_theory.specs.EdgeTable.{EdgeTable}
use Rattle.inner_paths.specs.Between.{Lengthened}
use Rattle.path_sums.specs.Sums.{PathSums}
use Rattle.path_sums.proofs.Spans.{sums-near}
use Rattle.splits.specs.Sums.{split_of, Splittable}
use Rattle.splits.proofs.Bound.{split-low}
use Rattle.edge_numbers.specs.Taken.{TakenOff}
use Rattle.edge_numbers.specs.Mixes.{Mixable}

pub few-edges : {N K : ℕ} {ds ps : List ℕ} → Splittable N K ds ps → K ≤ max_edges
few-edges w = omega (arith, w.allowed.few, w.allowed.most)

-- ---- each table
pub sums-low : {N K : ℕ} {ds ps : List ℕ} {r : List ℤ} → Splittable N K ds ps → EdgeTable K (split_of N ds (parent_of ps)) r → (v : ℕ) → v < K → nat_abs (entry_of r v) ≤ 100800000
sums-low w t v h = omega (arith, ap nat_abs (t.entries v h), split-low w v)

pub taken-low : {N K : ℕ} {ds ps : List ℕ} {r : List ℤ} → Splittable N K ds ps → TakenOff N K ds (parent_of ps) r → (v : ℕ) → v < K → nat_abs (entry_of r v) ≤ 100800000
taken-low {N} {K} {ds} {ps} w t v h = omega (arith, ap nat_abs (t.entries v h), nat_abs_mul (negsuc 0) (split_of N ds (parent_of ps) v), split-low w v)

pub paths-low : {N K : ℕ} {ps : List ℕ} {xs r : List ℤ} → Lengthened N K ps xs → PathSums N K (parent_of ps) (entry_of xs) r → (v : ℕ) → v < K → nat_abs (entry_of r v) ≤ 6451200000000000000
paths-low w t v h = omega (arith, ap nat_abs (t.entries v h), sums-near w v h)

-- ---- mixed
pub mixable : (K : ℕ) (a b : ℤ) (xs ys : List ℤ) → nat_abs a ≤ 1000000 → nat_abs b ≤ 1 → ((v : ℕ) → v < K → nat_abs (entry_of xs v) ≤ 100800000)
    → ((v : ℕ) → v < K → nat_abs (entry_of ys v) ≤ 6451200000000000000) → Mixable K a b xs ys
mixable K a b xs ys la lb lx ly = record {
  first = λ v h. omega (arith, first v h);
  second = λ v h. omega (arith, second v h);
  whole = λ v h. omega (arith, nat_abs_add (a *ℤ entry_of xs v) (b *ℤ entry_of ys v), first v h, second v h);
}
  where
    first : (v : ℕ) → v < K → nat_abs (a *ℤ entry_of xs v) ≤ 100800000000000
    first v h = omega (arith, nat_abs_mul a (entry_of xs v), mul-le-mul {n₁ = nat_abs a} {m₁ = nat_abs (entry_of xs v)} {n₂ = 1000000} {m₂ = 100800000} la (lx v h))

    second : (v : ℕ) → v < K → nat_abs (b *ℤ entry_of ys v) ≤ 6451200000000000000
    second v h = omega (arith, nat_abs_mul b (entry_of ys v), mul-le-mul {n₁ = nat_abs b} {m₁ = nat_abs (entry_of ys v)} {n₂ = 1} {m₂ = 6451200000000000000} lb (ly v h))
