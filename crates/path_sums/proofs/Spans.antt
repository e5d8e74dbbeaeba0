-- How far from 0 the sums at an edge can be. The idea: a way from a strain up to an edge, and a way on from there to a strain beyond, are parts of a
-- path between two strains, which has at most 63 edges; and an edge parts at most 1,024 pairs of 64 strains.
use mathlib.Core.Path.{◌≡◌, refl, sym, ap, ap₂, ◌∙◌, subst}
use mathlib.Core.Bool.{Bool, true, false, not, cond}
use mathlib.Core.List.{List, [], ◌∷◌}
use Prim.Native.Nat.{ℕ, zero, suc, ◌+◌, ◌*◌, ◌≤◌, ◌<◌, ◌^◌}
use native.Mathlib.Nat.{mul-le-mul}
use native.Mathlib.Omega.{arith}
use lib.Dec.{T}
use lib.IntN.{ℤ, pos, nat_abs, ◌+ℤ◌, ◌-ℤ◌, ◌*ℤ◌}
use Rattle.exact.specs.Order.{◌≤ᶻ◌, ◌<ᶻ◌, Within}
use Rattle.exact.specs.Sum.{sum, ind}
use Rattle.exact.specs.LeastSquares.{path, hops}
use Rattle.exact.specs.Table.{entry_of}
use Rattle.exact.proofs.Linear.{d_atom, lin, le→, →le, lt→, eq→}
use Rattle.exact.proofs.Order.{nn-sq, nn-pos, le-by, *-mono, ≤-pos}
use Rattle.exact.proofs.Quote.{by-ring, quote}
use Rattle.exact.proofs.Range.{within-≤, within_weighted}
use Rattle.exact.proofs.Ring.{*ℤ-oneʳ}
use Rattle.exact.proofs.Sign.{nat_abs_add, nat_abs_mul, within→abs, abs→within}
use Rattle.exact.proofs.Sum.{sum_cong, sum-nn, ind-nn}
use Rattle.verdict.specs.Table.{count}
use Rattle.tree_theory.specs.Chain.{parent_of, below, parts_pair}
use Rattle.tree_theory.specs.Allowed.{Allowed}
use Rattle.tree_theory.proofs.Chains.{Below, along, along-sym, below_true, below-yes}
use Rattle.tree_theory.proofs.Counts.{sum-count}
use Rattle.tree_theory.proofs.Depth.{path-bound}
use Rattle.tree_theory.proofs.Directions.{spread}
use Rattle.tree_theory.proofs.Strains.{leaf}
use Rattle.paths.specs.Standing.{max_thousandths, Small}
use Rattle.inner_paths.specs.Between.{Lengthened}
use Rattle.path_sums.specs.Sums.{path_sum, crowd, ways_up, ways_out}
use Rattle.path_sums.proofs.Sides.{by_way, off, off-sum, on-is, pairs-off}

-- as far as 63 edges go
abbrev pub span : ℕ
span = 63 * max_thousandths

-- ---- terms that are taken or not, each within c where it is taken
one_abs : (c : ℕ) (t : Bool) (z : ℤ) → (t ≡ true → nat_abs z ≤ c) → nat_abs (ind t *ℤ z) ≤ cond t 1 0 * c
unfolding ind
one_abs c true z g = omega (arith, g refl, nat_abs_mul (pos 1) z)
one_abs c false z g = omega (arith, nat_abs_mul (pos 0) z)

pub taken_abs : (n c : ℕ) (b : ℕ → Bool) (y : ℕ → ℤ) → ((i : ℕ) → i < n → b i ≡ true → nat_abs (y i) ≤ c) → nat_abs (sum n (λ i. ind (b i) *ℤ y i)) ≤ count n b * c
unfolding sum count
taken_abs zero c b y h = omega arith
taken_abs (suc n) c b y h = omega (arith, nat_abs_add (sum n (λ i. ind (b i) *ℤ y i)) (ind (b n) *ℤ y n), taken_abs n c b y (λ i l. h i (omega arith)), one_abs c (b n) (y n) (h n (omega arith)))

pub count_not : (n : ℕ) (b : ℕ → Bool) → count n b + count n (λ i. not (b i)) ≡ n
unfolding count
count_not zero b = refl
count_not (suc n) b = omega (arith, count_not n b, one (b n))
  where
    one : (t : Bool) → cond t 1 0 + cond (not t) 1 0 ≡ 1
    one true = refl
    one false = refl

-- two numbers that are 64 together
product-even : (a b : ℤ) → pos 4 *ℤ (a *ℤ b) ≤ᶻ (a +ℤ b) *ℤ (a +ℤ b)
product-even a b = le-by (nn-sq (a -ℤ b)) (by-ring (a ∷ b ∷ []) (search quote depth 20) tt)

pub product-few : (c o : ℕ) → c + o ≤ 64 → c * o ≤ 1024
product-few c o h = omega (arith, ≤-pos {m = 4 * (c * o)} {n = (c + o) * (c + o)} (product-even (pos c) (pos o)), mul-le-mul {n₂ = 64} {m₂ = 64} h h)

≤-of : {a b : ℕ} → a ≡ b → a ≤ b
≤-of e = omega arith

-- ---- edges of a path
module _ {N K : ℕ} {par : ℕ → ℕ} (ok : Allowed N K par) {x : List ℤ} (s : Small K x) where
  abbrev X : ℕ → ℤ
  X = entry_of x

  abbrev steps : ℕ → ℕ → ℤ
  steps a b = hops K (parts_pair par) (a, b)

  steps_are : (a b : ℕ) → steps a b ≡ along par K (λ _. pos 1) a b
  unfolding hops path
  steps_are a b = sum_cong K (λ v _. sym (*ℤ-oneʳ (ind (parts_pair par v (a, b)))))

  steps-nn : (a b : ℕ) → pos 0 ≤ᶻ steps a b
  unfolding hops
  steps-nn a b = sum-nn K (λ v. ind (parts_pair par v (a, b))) (λ v _. ind-nn (parts_pair par v (a, b)))

  -- a path of at most 63 edges
  near_by : (a b : ℕ) → steps a b ≤ᶻ pos 63 → nat_abs (along par K X a b) ≤ span
  near_by a b h = within→abs span (along par K X a b) (within-≤ (*-mono {c = pos max_thousandths} (nn-pos max_thousandths) h) weighed)
    where
      weighed : Within (pos max_thousandths *ℤ steps a b) (along par K X a b)
      weighed = unfold path hops in within_weighted K (pos max_thousandths) (λ v. ind (parts_pair par v (a, b))) X (λ v _. ind-nn (parts_pair par v (a, b))) (λ v l. abs→within max_thousandths (X v) (s.near v l))

  -- ---- the two sides of edge v
  module _ (v : ℕ) (edge : v < K) where
    whole-few : (i j : ℕ) → i < N → j < N → Below par i v → (Below par j v → ⊥) → steps i j <ᶻ pos N
    whole-few i j hi hj b n = path-bound N K par ok i j hi hj (λ e. n (subst (λ u. Below par u v) e b))

    two-parts : (i j : ℕ) → Below par i v → (Below par j v → ⊥) → steps i j ≡ steps i v +ℤ steps v j
    two-parts i j b n = steps_are i j ∙ by_way N K par ok X v edge (λ _. pos 1) i j b n ∙ sym (ap₂ ◌+ℤ◌ (steps_are i v) (steps_are v j))

    part-few : (a b c : ℤ) (n : ℕ) → c ≡ a +ℤ b → c <ᶻ pos n → n ≤ 64 → pos 0 ≤ᶻ a → pos 0 ≤ᶻ b → (a ≤ᶻ pos 63) × (b ≤ᶻ pos 63) × (c ≤ᶻ pos 63)
    part-few a b c n e h k p q = let A = d_atom a in let B = d_atom b in let C = d_atom c in (
      →le (search lin) (omega (arith, eq→ (search lin) e, lt→ (search lin) h, le→ (search lin) p, le→ (search lin) q)),
      →le (search lin) (omega (arith, eq→ (search lin) e, lt→ (search lin) h, le→ (search lin) p, le→ (search lin) q)),
      →le (search lin) (omega (arith, eq→ (search lin) e, lt→ (search lin) h, le→ (search lin) p, le→ (search lin) q)),
    )

    parts-few : (i j : ℕ) → i < N → j < N → Below par i v → (Below par j v → ⊥) → (steps i v ≤ᶻ pos 63) × (steps v j ≤ᶻ pos 63) × (steps i j ≤ᶻ pos 63)
    parts-few i j hi hj b n = part-few (steps i v) (steps v j) (steps i j) N (two-parts i j b n) (whole-few i j hi hj b n) ok.few (steps-nn i v) (steps-nn v j)

    -- a strain on each side
    inner : (i : ℕ) × (i < N) × Below par i v
    inner = leaf N K par ok v (omega arith)

    way-near : (i : ℕ) → i < N → Below par i v → nat_abs (along par K X i v) ≤ span
    way-near i h b = let S = spread N K par ok v edge in near_by i v (parts-few i S.k h S.k-strain b S.k-out).0

    on-near : (j : ℕ) → j < N → (Below par j v → ⊥) → nat_abs (along par K X v j) ≤ span
    on-near j h n = let (i, l, b) = inner in near_by v j (parts-few i j l h b n).1

    path-near : (i j : ℕ) → i < N → j < N → Below par i v → (Below par j v → ⊥) → nat_abs (along par K X i j) ≤ span
    path-near i j hi hj b n = near_by i j (parts-few i j hi hj b n).2

    -- how many are below, and how many are not
    abbrev pub in_count : ℕ
    in_count = count N (λ i. below par i v)

    abbrev pub out-count : ℕ
    out-count = count N (λ i. not (below par i v))

    together : in_count + out-count ≡ N
    together = count_not N (λ i. below par i v)

    pub in_few : in_count ≤ 64
    in_few = omega (arith, together, ok.few)

    pub out-few : out-count ≤ 64
    out-few = omega (arith, together, ok.few)

    few-pairs : in_count * out-count ≤ 1024
    few-pairs = product-few in_count out-count (omega (arith, together, ok.few))

    outside : (i : ℕ) → not (below par i v) ≡ true → Below par i v → ⊥
    outside i e b = clash (sym (ap not (below-yes par i v b)) ∙ e)
      where
        clash : not true ≡ true → ⊥
        clash q = subst T (sym q) tt

    pub crowd-count : crowd N par v ≡ pos in_count
    crowd-count = unfold crowd in sum-count N (λ i. below par i v)

    pub beyond-count : pos N -ℤ crowd N par v ≡ pos out-count
    beyond-count = sym (off-sum N K par ok X v edge) ∙ sum-count N (λ i. not (below par i v))

    pub up_abs : nat_abs (ways_up N K par X v) ≤ in_count * span
    up_abs = unfold ways_up in taken_abs N span (λ i. below par i v) (λ i. along par K X i v) (λ i l e. way-near i l (below_true par i v e))

    pub on_abs : nat_abs (ways_out N K par X v -ℤ ways_up N K par X v) ≤ out-count * span
    on_abs = subst (λ y. nat_abs y ≤ out-count * span) (on-is N K par ok X v edge)
        (taken_abs N span (λ i. not (below par i v)) (λ i. along par K X v i) (λ i l e. on-near i l (outside i e)))

    -- from one strain below v to all beyond
    row_abs : (j : ℕ) → j < N → Below par j v → nat_abs (sum N (λ i. off N K par ok X v edge i *ℤ along par K X i j)) ≤ out-count * span
    row_abs j l b = taken_abs N span (λ i. not (below par i v)) (λ i. along par K X i j) (λ i m e. subst (λ y. nat_abs y ≤ span) (along-sym par K X j i) (path-near j i l m b (outside i e)))

    -- ---- each number fits
    pub beyond-near : nat_abs (pos N -ℤ crowd N par v) ≤ 64
    beyond-near = omega (arith, ap nat_abs beyond-count, together, ok.few)

    pub crowd-near : nat_abs (crowd N par v) ≤ 64
    crowd-near = omega (arith, ap nat_abs crowd-count, together, ok.few)

    pub first-near : nat_abs ((pos N -ℤ crowd N par v) *ℤ ways_up N K par X v) < 2 ^ 63
    first-near = omega (arith, nat_abs_mul (pos N -ℤ crowd N par v) (ways_up N K par X v), mul-le-mul {n₂ = out-count} {m₂ = in_count * span} (≤-of (ap nat_abs beyond-count)) up_abs, few-pairs)

    pub second-near : nat_abs (crowd N par v *ℤ (ways_out N K par X v -ℤ ways_up N K par X v)) < 2 ^ 63
    second-near = omega (arith, nat_abs_mul (crowd N par v) (ways_out N K par X v -ℤ ways_up N K par X v), mul-le-mul {n₂ = in_count} {m₂ = out-count * span} (≤-of (ap nat_abs crowd-count)) on_abs, few-pairs)

    few-paths : nat_abs (path_sum N K par X v) ≤ 1024 * span
    few-paths = omega (
      arith,
      ap nat_abs (pairs-off N K par ok X v edge),
      taken_abs N (out-count * span) (λ j. below par j v) (λ j. sum N (λ i. off N K par ok X v edge i *ℤ along par K X i j)) (λ j l e. row_abs j l (below_true par j v e)),
      few-pairs,
    )

    pub sum_near : nat_abs (path_sum N K par X v) < 2 ^ 63
    sum_near = omega (arith, few-paths)

-- a path sum is at most 1,024 paths of 63 edges away from 0
pub sums-near : {N K : ℕ} {ps : List ℕ} {xs : List ℤ} → Lengthened N K ps xs → (v : ℕ) → v < K → nat_abs (path_sum N K (parent_of ps) (entry_of xs) v) ≤ 6451200000000000000
sums-near L v edge = omega (arith, few-paths L.allowed L.small v edge)
