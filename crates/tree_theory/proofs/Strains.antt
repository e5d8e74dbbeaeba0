-- Which strains are below which vertices of an allowed tree. Laws:
-- picking from a count: `find`, and leaving one out: `but-is`, `but-past`, `but-count`;
-- `kids≥2`, `child`, `another`, `third`: an inner vertex has two children or more, so one, so one besides any given, and the
-- root one besides any two;
-- `siblings`: two children of one vertex have nothing below both; `leaf`: every vertex has a strain below it;
-- `third-way`: besides two children of one vertex there is a strain below neither.
use mathlib.Core.Path.{◌≡◌, refl, sym, ◌∙◌, subst}
use mathlib.Core.Bool.{Bool, true, false, cond, false≢true}
use mathlib.Core.Logic.{◌≢◌, ◌⊎◌, inl, inr}
use Prim.Native.Nat.{ℕ, zero, suc, ◌+◌, ◌≤◌, ◌<◌}
use native.Mathlib.Decide.{ℕ_discrete, dec_lt}
use native.Mathlib.Omega.{arith}
use lib.Dec.{T, eqb, eqb→eq}
use Rattle.exact.proofs.Decide.{by_cases, eq_yes, eq_no}
use Rattle.verdict.specs.Table.{count}
use Rattle.tree_theory.specs.Chain.{kid}
use Rattle.tree_theory.specs.Allowed.{Allowed, children}
use Rattle.tree_theory.proofs.Chains.{Below, Up, below-le, below_self, below_up, above-par, laminar}

-- ---- picking from a count
-- a count of 1 or more has one to show
pub find : (n : ℕ) (p : ℕ → Bool) → 1 ≤ count n p → (u : ℕ) × (u < n) × (p u ≡ true)
unfolding count
find zero p h = absurd (omega arith)
find (suc n) p h = go (p n) refl h (find n p)
  where
    go : (b : Bool) → p n ≡ b → 1 ≤ count n p + cond b 1 0 → (1 ≤ count n p → (u : ℕ) × (u < n) × (p u ≡ true)) → (u : ℕ) × (u < suc n) × (p u ≡ true)
    go true e h ih = (n, omega arith, e)
    go false e h ih = let (u, l, t) = ih (omega arith) in (u, omega arith, t)

-- p, and not c
abbrev pub but : (ℕ → Bool) → ℕ → ℕ → Bool
but p c u = cond (eqb u c) false (p u)

-- what that test says
pub but-is : (p : ℕ → Bool) (c u : ℕ) → but p c u ≡ true → (u ≢ c) × (p u ≡ true)
but-is p c u e = by_cases (ℕ_discrete u c)
    (λ f. absurd (false≢true (rw (eq_yes f) at e)))
    (λ f. (f, rw (eq_no f) at e))

-- leaving c out takes nothing off a count that c is past, and at most one off any
pub but-past : (n : ℕ) (p : ℕ → Bool) (c : ℕ) → n ≤ c → count n p ≡ count n (but p c)
unfolding count
but-past zero p c h = refl
but-past (suc n) p c h = rw (eq_no {a = n} {b = c} (omega arith), but-past n p c (omega arith))

pub but-count : (n : ℕ) (p : ℕ → Bool) (c : ℕ) → count n p ≤ suc (count n (but p c))
unfolding count
but-count zero p c = omega arith
but-count (suc n) p c = let ih = but-count n p c in by_cases (ℕ_discrete n c)
    (λ e. at (p n) (but-past n p c (omega arith)))
    (λ e. rw (eq_no e) (omega arith))
  where
    at : (b : Bool) → count n p ≡ count n (but p c) → count n p + cond b 1 0 ≤ suc (count n (but p c) + cond (but p c n) 1 0)
    at true e = omega arith
    at false e = omega arith

-- ---- nothing is below two children of one vertex
module _ (par : ℕ → ℕ) (K : ℕ) (up : Up par K) where
  pub siblings : (c c' j : ℕ) → c < K → c' < K → c ≢ c' → par c ≡ par c' → Below par j c → Below par j c' → ⊥
  siblings c c' j h h' n e a b = split (laminar par K up j c c' (omega arith) (omega arith) a b)
    where
      split : Below par c c' ⊎ Below par c' c → ⊥
      split (inl s) = omega (arith, below-le par (par c) c' (above-par par K up c c' (omega arith) s n), up c' h')
      split (inr s) = omega (arith, below-le par (par c') c (above-par par K up c' c (omega arith) s (omega arith)), up c h)

module _ (N K : ℕ) (par : ℕ → ℕ) (ok : Allowed N K par) where
  -- ---- children
  -- an inner vertex, the root too, has two children or more
  pub kids≥2 : (w : ℕ) → N ≤ w → w ≤ K → 2 ≤ children K par w
  kids≥2 w h k = by_cases (ℕ_discrete w K)
      (λ e. subst (λ y. 2 ≤ children K par y) (sym e) (omega (arith, ok.root)))
      (λ e. ok.two w h (omega arith))

  -- what the test of a child says
  pub is-kid : (w u : ℕ) → kid par w u ≡ true → par u ≡ w
  is-kid w u e = eqb→eq (par u) w (subst T (sym e) tt)

  -- a child to go down to
  pub child : (w : ℕ) → N ≤ w → w ≤ K → (u : ℕ) × (u < K) × (par u ≡ w)
  child w h k = let (u, l, t) = find K (kid par w) (omega (arith, kids≥2 w h k)) in (u, l, is-kid w u t)

  -- a child besides c
  pub another : (w c : ℕ) → N ≤ w → w ≤ K → (u : ℕ) × (u < K) × (par u ≡ w) × (u ≢ c)
  another w c h k = let (u, l, t) = find K (but (kid par w) c) (omega (arith, kids≥2 w h k, but-count K (kid par w) c)) in
      let (n, f) = but-is (kid par w) c u t in (u, l, is-kid w u f, n)

  -- a child of the root besides c and e
  pub third : (c e : ℕ) → (u : ℕ) × (u < K) × (par u ≡ K) × (u ≢ c) × (u ≢ e)
  third c e = let p = but (kid par K) c in
      let (u, l, t) = find K (but p e) (omega (arith, ok.root, but-count K (kid par K) c, but-count K p e)) in
      let (m, f) = but-is p e u t in let (n, g) = but-is (kid par K) c u f in (u, l, is-kid K u g, n, m)

  -- ---- a strain below every vertex
  -- by going down to a child, at most n times
  leaf-to : (n v : ℕ) → v < n → v ≤ K → (i : ℕ) × (i < N) × Below par i v
  leaf-to zero v l k = absurd (omega arith)
  leaf-to (suc n) v l k = by_cases (dec_lt v N)
      (λ h. (v, h, below_self par v))
      (λ h. let (u, m, e) = child v (omega arith) k in let (i, a, b) = leaf-to n u (omega (arith, ok.up u m)) (omega arith) in
      (i, a, below_up par K ok.up i u v m k e b))

  -- a strain to speak for v
  pub leaf : (v : ℕ) → v ≤ K → (i : ℕ) × (i < N) × Below par i v
  leaf v k = leaf-to (suc v) v (omega arith) k

  -- ---- a strain below neither of two children: below a third child of the root, or not below their parent
  pub third-way : (c c' : ℕ) → c < K → c' < K → par c' ≡ par c → (k : ℕ) × (k < N) × (Below par k c → ⊥) × (Below par k c' → ⊥)
  third-way c c' h h' e = by_cases (ℕ_discrete (par c) K)
      (λ r. let (u, l, f, n, n') = third c c' in let (k, m, b) = leaf u (omega arith) in
      (k, m, siblings par K ok.up u c k l h n (f ∙ sym r) b, siblings par K ok.up u c' k l h' n' (f ∙ sym r ∙ sym e) b))
      (λ r. let hw : par c < K = omega (arith, ok.top c h) in
      let (u, l, f, n) = another (par (par c)) (par c) (ok.inner (par c) hw) (ok.top (par c) hw) in
      let (k, m, b) = leaf u (omega arith) in let out = siblings par K ok.up u (par c) k l hw n f b in
      (k, m, (λ q. out (below_up par K ok.up k c (par c) h (omega arith) refl q)), (λ q. out (below_up par K ok.up k c' (par c) h' (omega arith) e q))))
