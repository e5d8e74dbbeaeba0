-- When a vertex's parent or an inner vertex's children are at fault: each test of the specification, from the comparisons that the
-- code makes, and back.
use mathlib.Core.Path.{◌≡◌, refl, sym, ◌∙◌}
use mathlib.Core.Bool.{true, false, cond, ◌||◌, or-true, or-false, true≢false}
use Prim.Native.Nat.{ℕ, ◌+◌, ◌≤◌, ◌<◌}
use native.Mathlib.Decide.{dec_le, dec_lt}
use native.Mathlib.Omega.{arith}
use borrow.Author.Tests.{lt-ltb, le-ltb, le-leb, lt-leb, eq-eqb, ne_eqb}
use lib.Dec.{eqb, leb, ltb}
use Rattle.exact.proofs.Decide.{by_cases}
use Rattle.tree_theory.specs.Allowed.{children}
use Rattle.tree_theory.specs.Tests.{parent_out, needed, children_few, children_out}
use Rattle.tree_theory.specs.Chain.{kid}
use Rattle.verdict.proofs.Table.{count-le}

-- ---- 9: a parent
module _ (N K : ℕ) (par : ℕ → ℕ) (v : ℕ) where
  pub not_above : par v ≤ v → parent_out N K par v ≡ true
  not_above h = rw (le-leb (par v) v h)

  pub at-strain : par v < N → parent_out N K par v ≡ true
  at-strain h = rw (lt-ltb (par v) N h) (or-true (leb (par v) v))

  pub past-root : K < par v → parent_out N K par v ≡ true
  past-root h = rw (lt-ltb K (par v) h, or-true (ltb (par v) N)) (or-true (leb (par v) v))

  pub parent_in : v < par v → N ≤ par v → par v ≤ K → parent_out N K par v ≡ false
  parent_in h i j = rw (lt-leb (par v) v h, le-ltb (par v) N i, le-ltb K (par v) j)

  pub parent_ok : parent_out N K par v ≡ false → (v < par v) × (N ≤ par v) × (par v ≤ K)
  parent_ok e = (
    by_cases (dec_lt v (par v)) (λ l. l) (λ l. no (not_above (omega arith))),
    by_cases (dec_le N (par v)) (λ l. l) (λ l. no (at-strain (omega arith))),
    by_cases (dec_le (par v) K) (λ l. l) (λ l. no (past-root (omega arith))),
  )
    where
      no : {P : Type 0} → parent_out N K par v ≡ true → P
      no q = absurd (true≢false (sym q ∙ e))

-- ---- 10: the children of a vertex
module _ (N K : ℕ) (par : ℕ → ℕ) (w : ℕ) where
  pub strain_free : w < N → children_few N K par w ≡ false
  strain_free h = rw (lt-ltb w N h) (le-ltb (children K par w) 0 (omega arith))

  need_two : N ≤ w → w < K → needed N K w ≡ 2
  need_two h l = rw (le-ltb w N h, ne_eqb w K (omega arith))

  pub inner-few : N ≤ w → w < K → children K par w < 2 → children_few N K par w ≡ true
  inner-few h l f = rw (need_two h l) (lt-ltb (children K par w) 2 f)

  pub inner-ok : N ≤ w → w < K → children_few N K par w ≡ false → 2 ≤ children K par w
  inner-ok h l e = by_cases (dec_le 2 (children K par w)) (λ f. f) (λ f. absurd (true≢false (sym (inner-few h l (omega arith)) ∙ e)))

  pub inner-enough : N ≤ w → w < K → 2 ≤ children K par w → children_few N K par w ≡ false
  inner-enough h l f = rw (need_two h l) (le-ltb (children K par w) 2 f)

module _ (N K : ℕ) (par : ℕ → ℕ) where
  need_three : N ≤ K → needed N K K ≡ 3
  need_three h = rw (le-ltb K N h, eq-eqb K K refl)

  pub root-few : N ≤ K → children K par K < 3 → children_few N K par K ≡ true
  root-few h f = rw (need_three h) (lt-ltb (children K par K) 3 f)

  pub root-enough : N ≤ K → 3 ≤ children K par K → children_few N K par K ≡ false
  root-enough h f = rw (need_three h) (le-ltb (children K par K) 3 f)

  pub root_ok : N ≤ K → children_few N K par K ≡ false → 3 ≤ children K par K
  root_ok h e = by_cases (dec_le 3 (children K par K)) (λ f. f) (λ f. absurd (true≢false (sym (root-few h (omega arith)) ∙ e)))

  -- every vertex from 0 to the root has the children that it needs
  pub children_in : (w : ℕ) → N ≤ K → w ≤ K → 3 ≤ children K par K → (N ≤ w → w < K → 2 ≤ children K par w) → children_few N K par w ≡ false
  children_in w n h r t = by_cases (dec_lt w N) (strain_free N K par w)
      (λ i. by_cases (dec_lt w K) (λ l. inner-enough N K par w (omega arith) l (t (omega arith) l))
      (λ l. let e : w ≡ K = omega arith in rw e (root-enough n r)))

-- ---- children counted against what a vertex needs
module _ (spare N K : ℕ) (par : ℕ → ℕ) where
  pub strain-passes : (w : ℕ) → w < N → children_out spare N K par w ≡ false
  strain-passes w h = rw (lt-ltb w N h)

  pub inner-asked : (w : ℕ) → N ≤ w → w < K → children_out spare N K par w ≡ (ltb (children K par w) 2 || ltb (2 + spare) (children K par w))
  inner-asked w h l = rw (le-ltb w N h, ne_eqb w K (omega arith))

  pub root-asked : N ≤ K → children_out spare N K par K ≡ (ltb (children K par K) 3 || ltb (3 + spare) (children K par K))
  root-asked h = rw (le-ltb K N h, eq-eqb K K refl)

-- with as many to spare as there are edges, only too few are out: 10
pub few-is : (spare N K : ℕ) (par : ℕ → ℕ) (w : ℕ) → K ≤ spare → children_out spare N K par w ≡ children_few N K par w
few-is spare N K par w h = by_cases (dec_lt w N)
    (λ l. rw (lt-ltb w N l) (sym (le-ltb (children K par w) 0 (omega arith))))
    (λ l. rw (le-ltb w N (omega arith), le-ltb (cond (eqb w K) 3 2 + spare) (children K par w) (omega (arith, count-le K (kid par w)))) (or-false (ltb (children K par w) (cond (eqb w K) 3 2))))
