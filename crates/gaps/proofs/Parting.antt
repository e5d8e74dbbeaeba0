-- Why the masks tell what an edge parts. A strain's column and a cluster have in common the strains that are in both (`and-column`), so
-- the edge parts the strain from one of its column where the cluster has it and not the whole column, or not it and some of the column
-- (`parts-column`). Over all strains that is the test of 26 (`unseen-is`).
use mathlib.Core.Path.{◌≡◌, refl, sym, ap, ap₂, ◌∙◌}
use mathlib.Core.Bool.{Bool, true, false, ◌&&◌, ◌||◌, cond, not}
use mathlib.Core.List.{List}
use Prim.Native.Nat.{ℕ, zero, suc, ◌+◌, ◌*◌, ◌^◌, ◌<◌, ◌≤◌}
use native.Mathlib.Decide.{ℕ_discrete}
use native.Mathlib.Nat.{zero-mul, zero-add, add-zero}
use native.Mathlib.Numerals.{add-one}
use native.Mathlib.Omega.{arith}
use borrow.Author.Tests.{lt-ltb, le-leb, ne_eqb}
use lib.Bits.{bit_and, and_block}
use lib.Dec.{eqb, ltb, leb}
use lib.ListN.{length, get_or}
use lib.Pow.{pow_pos, pow_mono}
use Rattle.exact.specs.Table.{table}
use Rattle.exact.proofs.Decide.{by_cases, eq_yes, eq_no}
use Rattle.exact.proofs.Fill.{get_or_table}
use Rattle.verdict.specs.Table.{some}
use Rattle.verdict.proofs.Table.{some_cong}
use Rattle.matrix.specs.Limits.{max_strains}
use Rattle.matrix.specs.Place.{pair_count, place, is_measured, measured}
use Rattle.matrix.proofs.Places.{place-bound, count-more}
use Rattle.tree_theory.specs.Limits.{max_edges, max_vertices}
use Rattle.tree_theory.specs.Chain.{parent_of, below, parts}
use Rattle.tree_theory.specs.Cluster.{mask, cluster}
use Rattle.tree_theory.proofs.Masks.{mask-zero, mask-suc, digit, mask-top, mask_lt, mask-and, mask-bit}
use Rattle.fit_theory.specs.Quantities.{parts_in}
use Rattle.fit_theory.specs.Stands.{Shaped}
use Rattle.fit_theory.specs.Tests.{unseen}
use Rattle.gaps.specs.Columns.{column_of, parts_column}

-- a strain's pairs are among those of all strains
pub column-room : (N j : ℕ) → j < N → pair_count (suc j) ≤ pair_count N
unfolding place
column-room N zero h = omega arith
column-room N (suc j) h = omega (arith, place-bound N j (suc j) (omega arith) h, count-more (suc j))

-- ---- one turn of `column`: r is the bit of the entry that is read at k, the place of i and j
module _ (ds : List ℕ) (j i got r k : ℕ) (e : got ≡ mask i (λ h. measured ds (h, j)))
    (p : k ≡ place i j) (b : r ≡ cond (is_measured (get_or ds k 0)) (2 ^ i) 0) where
  pub column-turn : got + r ≡ mask (i + 1) (λ h. measured ds (h, j))
  column-turn =
      ap₂ ◌+◌ e (b ∙ ap (λ (t : ℕ). cond (is_measured (get_or ds t 0)) (2 ^ i) 0) p)
      ∙ sym (mask-suc i (λ h. measured ds (h, j))) ∙ ap (λ (n : ℕ). mask n (λ h. measured ds (h, j))) (sym (add-one i))

  pub column_fits : i < max_strains → got + r < 2 ^ 64
  column_fits h = let l : i + 1 ≤ 64 = omega arith in omega (arith, column-turn, mask_lt (i + 1) (λ h. measured ds (h, j)), pow_mono l)

-- ---- what two masks have in common
-- a narrow one and a wide one: digits past the narrow one do not show
pub and-column : (j N : ℕ) (m b : ℕ → Bool) → j ≤ N → bit_and (mask j m) (mask N b) ≡ mask j (λ i. m i && b i)
and-column j zero m b h = let e : j ≡ 0 = omega arith in rw e (mask-and 0 m b)
and-column j (suc N) m b h =
    let ih : j ≤ N → bit_and (mask j m) (mask N b) ≡ mask j (λ i. m i && b i) = and-column j N m b in
    by_cases (ℕ_discrete j (suc N))
    (λ e. rw e (mask-and (suc N) m b))
    (λ e. let l : j ≤ N = omega arith in
    ap₂ bit_and (sym (zero-top (mask j m))) (mask-top N b)
    ∙ and_block N 0 (digit (b N)) (mask j m) (mask N b) (omega (arith, mask_lt j m, pow_mono l)) (mask_lt N b)
    ∙ zero-top (bit_and (mask j m) (mask N b)) ∙ ih l)
  where
    zero-top : (x : ℕ) → 0 * 2 ^ N + x ≡ x
    zero-top x = ap (λ t. t + x) (zero-mul (2 ^ N)) ∙ zero-add x

-- ---- what is left of a mask
-- a mask is nothing where it holds none
pub mask-none-is : (j : ℕ) (f : ℕ → Bool) → eqb (mask j f) 0 ≡ not (some j f)
unfolding some
mask-none-is zero f = ap (λ x. eqb x 0) (mask-zero f)
mask-none-is (suc j) f = let ih = mask-none-is j f in ap (λ x. eqb x 0) (mask-suc j f) ∙ go (f j) (some j f) ih
  where
    go : (x s : Bool) → eqb (mask j f) 0 ≡ not s → eqb (mask j f + cond x (2 ^ j) 0) 0 ≡ not (s || x)
    go true true e = ne_eqb (mask j f + 2 ^ j) 0 (omega (arith, pow_pos j))
    go true false e = ne_eqb (mask j f + 2 ^ j) 0 (omega (arith, pow_pos j))
    go false true e = ap (λ x. eqb x 0) (add-zero (mask j f)) ∙ e
    go false false e = ap (λ x. eqb x 0) (add-zero (mask j f)) ∙ e

-- a mask is what it has of another and what it has beside it
mask-split : (j : ℕ) (m b : ℕ → Bool) → mask j m ≡ mask j (λ i. m i && b i) + mask j (λ i. m i && not (b i))
mask-split zero m b = omega (arith, mask-zero m, mask-zero (λ i. m i && b i), mask-zero (λ i. m i && not (b i)))
mask-split (suc j) m b =
    omega (arith, mask-split j m b, mask-suc j m, mask-suc j (λ i. m i && b i), mask-suc j (λ i. m i && not (b i)), go (m j) (b j))
  where
    go : (x y : Bool) → cond x (2 ^ j) 0 ≡ cond (x && y) (2 ^ j) 0 + cond (x && not y) (2 ^ j) 0
    go true true = omega arith
    go true false = omega arith
    go false y = refl

eqb-more : (x y : ℕ) → eqb x (x + y) ≡ eqb y 0
eqb-more x y = by_cases (ℕ_discrete y 0)
    (λ e. eq_yes {a = x} {b = x + y} (omega arith) ∙ sym (eq_yes e))
    (λ e. eq_no {a = x} {b = x + y} (omega arith) ∙ sym (eq_no e))

-- a mask lies in another where it has none beside it
pub mask-all-is : (j : ℕ) (m b : ℕ → Bool) → eqb (mask j (λ i. m i && b i)) (mask j m) ≡ not (some j (λ i. m i && not (b i)))
mask-all-is j m b =
    ap (eqb (mask j (λ i. m i && b i))) (mask-split j m b)
    ∙ eqb-more (mask j (λ i. m i && b i)) (mask j (λ i. m i && not (b i))) ∙ mask-none-is j (λ i. m i && not (b i))

not_not : (x : Bool) → not (not x) ≡ x
not_not true = refl
not_not false = refl

-- ---- a strain, its column and a cluster
pub parts-mask : (N j : ℕ) (m b : ℕ → Bool) → j < N → parts_column (mask N b) j (mask j m) ≡ some j (λ i. cond (b i) (not (b j)) (b j) && m i)
parts-mask N j m b h =
    ap₂ (λ x y. cond x (not (eqb y (mask j m))) (not (eqb y 0))) (mask-bit N b j h) (and-column j N m b (omega arith)) ∙ go (b j)
  where
    one : (x y z : Bool) → (x && cond z (not y) y) ≡ (cond y (not z) z && x)
    one true true true = refl
    one true true false = refl
    one true false true = refl
    one true false false = refl
    one false true true = refl
    one false true false = refl
    one false false true = refl
    one false false false = refl

    go : (z : Bool) → cond z (not (eqb (mask j (λ i. m i && b i)) (mask j m))) (not (eqb (mask j (λ i. m i && b i)) 0))
        ≡ some j (λ i. cond (b i) (not z) z && m i)
    go true = ap not (mask-all-is j m b) ∙ not_not _ ∙ some_cong j _ _ (λ i _. one (m i) (b i) true)
    go false = ap not (mask-none-is j (λ i. m i && b i)) ∙ not_not _ ∙ some_cong j _ _ (λ i _. one (m i) (b i) false)

pub parts-column : (N : ℕ) (ds ps : List ℕ) (v j : ℕ) → j < N
    → parts_column (cluster N (parent_of ps) v) j (column_of ds j) ≡ some j (λ i. parts_in ds ps v (i, j))
unfolding parts
parts-column N ds ps v j h = parts-mask N j (λ i. measured ds (i, j)) (λ i. below (parent_of ps) i v) h

-- ---- by the tables of the code
pub few-edges : {N : ℕ} {ds ps : List ℕ} → Shaped N ds ps → length ps ≤ max_edges
few-edges s = omega (arith, s.tree.few, s.tree.most)

module _ (N : ℕ) (ds ps cs ms : List ℕ) (s : Shaped N ds ps)
    (e : cs ≡ table max_vertices (λ v. cond (leb v (length ps)) (cluster N (parent_of ps) v) 0))
    (f : ms ≡ table max_strains (λ j. cond (ltb j N) (column_of ds j) 0)) where
  pub unseen-is : (v : ℕ) → v < length ps → not (some N (λ j. parts_column (get_or cs v 0) j (get_or ms j 0))) ≡ unseen N ds ps v
  unseen-is v l = ap not (some_cong N _ _ (λ j h. ap₂ (λ x y. parts_column x j y) standing (column j h) ∙ parts-column N ds ps v j h))
    where
      standing : get_or cs v 0 ≡ cluster N (parent_of ps) v
      standing =
          ap (λ (t : List ℕ). get_or t v 0) e
          ∙ get_or_table max_vertices (λ u. cond (leb u (length ps)) (cluster N (parent_of ps) u) 0) 0 v (omega (arith, few-edges s))
          ∙ ap (λ b. cond b (cluster N (parent_of ps) v) 0) (le-leb v (length ps) (omega arith))

      column : (j : ℕ) → j < N → get_or ms j 0 ≡ column_of ds j
      column j h =
          ap (λ (t : List ℕ). get_or t j 0) f
          ∙ get_or_table max_strains (λ k. cond (ltb k N) (column_of ds k) 0) 0 j (omega (arith, s.matrix.few))
          ∙ ap (λ b. cond b (column_of ds j) 0) (lt-ltb j N h)
