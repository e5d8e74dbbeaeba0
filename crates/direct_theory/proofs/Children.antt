-- Children by number, and the three edges at a vertex of degree three. Child k of w is the one with k children of w before it:
-- a child is found by its place, and its place is less than their number. Laws:
-- `child-is`: child k is one, and its place is k; `child-at`, `place-less`: every child is the child of its place;
-- `child-apart`: children of different places differ;
-- `degree3`: on a resolved tree every inner vertex has two children, the root a third, and there is no other;
-- `other-is`, `sibling-is`: the sibling is another edge under the same parent;
-- `farther-is`: the edge farther on is the parent's own, or at the root a third child;
-- `inner_cases`, `root_cases`: the edges at a vertex in any order, from their order by number.
use mathlib.Core.Path.{◌≡◌, refl, sym, ◌∙◌, ap, subst, subst₂}
use mathlib.Core.Bool.{Bool, true, false, cond, ◌&&◌, and-false}
use mathlib.Core.Logic.{◌≢◌, ◌⊎◌, inl, inr}
use Prim.Native.Nat.{ℕ, zero, suc, ◌+◌, ◌≤◌, ◌<◌}
use native.Mathlib.Decide.{ℕ_discrete}
use native.Mathlib.Omega.{arith}
use lib.Dec.{T, eqb, eqb→eq}
use Rattle.exact.proofs.Decide.{by_cases, eq_yes, eq_no}
use Rattle.verdict.specs.Table.{count}
use Rattle.verdict.proofs.Table.{count-zero, count-suc}
use Rattle.tree_theory.specs.Chain.{kid}
use Rattle.tree_theory.specs.Allowed.{Allowed, children}
use Rattle.tree_theory.proofs.Strains.{kids≥2}
use Rattle.direct_theory.specs.Children.{child_to, child_of, sibling, third_at, farther, Resolved}

-- ---- counts
-- one more where n passes
count_yes : (n : ℕ) (p : ℕ → Bool) → p n ≡ true → count (suc n) p ≡ suc (count n p)
count_yes n p e = count-suc n p ∙ ap (λ b. count n p + cond b 1 0) e ∙ omega arith

-- no more where it does not
count_no : (n : ℕ) (p : ℕ → Bool) → p n ≡ false → count (suc n) p ≡ count n p
count_no n p e = count-suc n p ∙ ap (λ b. count n p + cond b 1 0) e ∙ omega arith

-- those before u, which passes, are fewer than those before a later n
pub count_less : (n : ℕ) (p : ℕ → Bool) (u : ℕ) → u < n → p u ≡ true → count u p < count n p
count_less zero p u l e = absurd (omega arith)
count_less (suc n) p u l e = let ih : u < n → count u p < count n p = λ q. count_less n p u q e in by_cases (ℕ_discrete u n)
    (λ q. subst (λ y. count y p < count (suc n) p) (sym q) (omega (arith, count_yes n p (subst (λ y. p y ≡ true) q e))))
    (λ q. go (p n) refl (ih (omega arith)))
  where
    go : (b : Bool) → p n ≡ b → count u p < count n p → count u p < count (suc n) p
    go true f h = omega (arith, count_yes n p f)
    go false f h = omega (arith, count_no n p f)

-- ---- children by number
-- u is child k of w
pub record Child (K : ℕ) (par : ℕ → ℕ) (w k u : ℕ) : Type 0 where
  pub edge : u < K
  pub under : par u ≡ w
  pub place : count u (kid par w) ≡ k

-- children of different places differ
pub child-apart : (K : ℕ) (par : ℕ → ℕ) (w j k u v : ℕ) → Child K par w j u → Child K par w k v → j ≢ k → u ≢ v
child-apart K par w j k u v a b n e = n (sym a.place ∙ ap (λ y. count y (kid par w)) e ∙ b.place)

module _ (par : ℕ → ℕ) (w : ℕ) where
  -- the test by which a vertex is taken for child k
  abbrev taken : ℕ → ℕ → Bool
  taken k v = kid par w v && eqb (count v (kid par w)) k

  to-yes : (k v : ℕ) → taken k v ≡ true → child_to par w k (suc v) ≡ v
  unfolding child_to
  to-yes k v e = rw e

  to-no : (k v : ℕ) → taken k v ≡ false → child_to par w k (suc v) ≡ child_to par w k v
  unfolding child_to
  to-no k v e = rw e

  taken_yes : (k v : ℕ) → kid par w v ≡ true → count v (kid par w) ≡ k → taken k v ≡ true
  taken_yes k v e f = rw (e, eq_yes f)

  taken-no : (k v : ℕ) → count v (kid par w) ≢ k → taken k v ≡ false
  taken-no k v n = rw (eq_no n) (and-false (kid par w v))

  taken-off : (k v : ℕ) → kid par w v ≡ false → taken k v ≡ false
  taken-off k v e = rw e

  -- u is among the vertices below m, and is child k
  abbrev Good : ℕ → ℕ → ℕ → Type 0
  Good k m u = (u < m) × (kid par w u ≡ true) × (count u (kid par w) ≡ k)

  to_is : (k n : ℕ) → k < count n (kid par w) → Good k n (child_to par w k n)
  to_is k zero h = absurd (omega (arith, count-zero (kid par w)))
  to_is k (suc n) h = go (kid par w n) refl (to_is k n)
    where
      later : (k < count n (kid par w) → Good k n (child_to par w k n)) → k < count n (kid par w) → taken k n ≡ false → Good k (suc n) (child_to par w k (suc n))
      later ih l f = let (a, b, c) = ih l in subst (Good k (suc n)) (sym (to-no k n f)) (omega arith, b, c)

      go : (b : Bool) → kid par w n ≡ b → (k < count n (kid par w) → Good k n (child_to par w k n)) → Good k (suc n) (child_to par w k (suc n))
      go true e ih = by_cases (ℕ_discrete (count n (kid par w)) k)
          (λ q. subst (Good k (suc n)) (sym (to-yes k n (taken_yes k n e q))) (omega arith, e, q))
          (λ q. later ih (omega (arith, h, count_yes n (kid par w) e)) (taken-no k n q))
      go false e ih = later ih (omega (arith, h, count_no n (kid par w) e)) (taken-off k n e)

  to_at : (u n : ℕ) → u < n → kid par w u ≡ true → child_to par w (count u (kid par w)) n ≡ u
  to_at u zero l e = absurd (omega arith)
  to_at u (suc n) l e = let ih : u < n → child_to par w (count u (kid par w)) n ≡ u = λ q. to_at u n q e in by_cases (ℕ_discrete u n)
      (λ q. to-yes (count u (kid par w)) n (taken_yes (count u (kid par w)) n (subst (λ y. kid par w y ≡ true) q e) (ap (λ y. count y (kid par w)) (sym q))) ∙ sym q)
      (λ q. to-no (count u (kid par w)) n (taken-no (count u (kid par w)) n (λ f. omega (arith, f, count_less n (kid par w) u (omega arith) e))) ∙ ih (omega arith))

module _ (K : ℕ) (par : ℕ → ℕ) (w : ℕ) where
  -- child k is one of w's children, where w has more than k
  pub child-is : (k : ℕ) → k < children K par w → Child K par w k (child_of K par w k)
  child-is k h = let (a, b, c) = to_is par w k K h in record { edge = a; under = eqb→eq (par (child_of K par w k)) w (subst T (sym b) tt); place = c }

  -- every child is the child of its place
  pub child-at : (u : ℕ) → u < K → par u ≡ w → child_of K par w (count u (kid par w)) ≡ u
  child-at u l e = to_at par w u K l (eq_yes e)

  -- which is less than the number of children
  pub place-less : (u : ℕ) → u < K → par u ≡ w → count u (kid par w) < children K par w
  place-less u l e = count_less K (kid par w) u l (eq_yes e)

-- ---- degree three
-- two children of each inner vertex, a third of the root, no other, and each one's sibling
pub record Degree3 (N K : ℕ) (par : ℕ → ℕ) : Type 0 where
  pub first : ℕ → ℕ
  pub second : ℕ → ℕ
  pub third : ℕ
  pub other : ℕ → ℕ
  pub edge₁ : (w : ℕ) → N ≤ w → w ≤ K → first w < K
  pub edge₂ : (w : ℕ) → N ≤ w → w ≤ K → second w < K
  pub edge₃ : third < K
  pub under₁ : (w : ℕ) → N ≤ w → w ≤ K → par (first w) ≡ w
  pub under₂ : (w : ℕ) → N ≤ w → w ≤ K → par (second w) ≡ w
  pub under₃ : par third ≡ K
  pub apart₁₂ : (w : ℕ) → N ≤ w → w ≤ K → first w ≢ second w
  pub apart₁₃ : first K ≢ third
  pub apart₂₃ : second K ≢ third
  pub only : (c : ℕ) → c < K → par c < K → (c ≡ first (par c)) ⊎ (c ≡ second (par c))
  pub only-root : (c : ℕ) → c < K → par c ≡ K → (c ≡ first K) ⊎ ((c ≡ second K) ⊎ (c ≡ third))
  pub other-first : (c : ℕ) → c ≡ first (par c) → other c ≡ second (par c)
  pub other-later : (c : ℕ) → c ≢ first (par c) → other c ≡ first (par c)

-- s is another edge under c's parent
pub record Sibling (K : ℕ) (par : ℕ → ℕ) (c s : ℕ) : Type 0 where
  pub edge : s < K
  pub under : par s ≡ par c
  pub apart : s ≢ c

-- e is the third edge at c's parent, beside c and s: the parent's own, or at the root a third child
pub record Farther (K : ℕ) (par : ℕ → ℕ) (c s e : ℕ) : Type 0 where
  pub edge : e < K
  pub inside : par c < K → e ≡ par c
  pub at-root : par c ≡ K → (par e ≡ K) × (e ≢ c) × (e ≢ s)

module _ (N K : ℕ) (par : ℕ → ℕ) (ok : Allowed N K par) (g : Degree3 N K par) where
  -- the sibling is another edge under the same parent
  pub other-is : (c : ℕ) → c < K → Sibling K par c (g.other c)
  other-is c l = let w = par c in let h = ok.inner c l in let k = ok.top c l in by_cases (ℕ_discrete c (g.first w))
      (λ q. let s = g.other-first c q in record {
        edge = subst (λ y. y < K) (sym s) (g.edge₂ w h k);
        under = ap par s ∙ g.under₂ w h k;
        apart = λ z. g.apart₁₂ w h k (sym q ∙ sym z ∙ s);
      })
      (λ q. let s = g.other-later c q in record {
        edge = subst (λ y. y < K) (sym s) (g.edge₁ w h k);
        under = ap par s ∙ g.under₁ w h k;
        apart = λ z. q (sym z ∙ s);
      })

module _ (N K : ℕ) (par : ℕ → ℕ) (ok : Allowed N K par) (res : Resolved N K par) where
  -- every inner vertex but the root has two children
  pub two-children : (w : ℕ) → N ≤ w → w < K → children K par w ≡ 2
  two-children w h k = omega (arith, rw (eq_no {a = w} {b = K} (omega arith)) at (res.three w h (omega arith)))

  -- the root has three
  pub three-children : children K par K ≡ 3
  three-children = omega (arith, rw (eq_yes {a = K} {b = K} refl) at (res.three K (omega (arith, ok.edges)) (omega arith)))

  -- so an inner vertex has a child 0 and a child 1, the root a child 2
  pub child₀ : (w : ℕ) → N ≤ w → w ≤ K → Child K par w 0 (child_of K par w 0)
  child₀ w h k = child-is K par w 0 (omega (arith, kids≥2 N K par ok w h k))

  pub child₁ : (w : ℕ) → N ≤ w → w ≤ K → Child K par w 1 (child_of K par w 1)
  child₁ w h k = child-is K par w 1 (omega (arith, kids≥2 N K par ok w h k))

  pub child₂ : Child K par K 2 (child_of K par K 2)
  child₂ = child-is K par K 2 (omega (arith, three-children))

  -- what a place below two or three is
  found : (w c k : ℕ) → c < K → par c ≡ w → count c (kid par w) ≡ k → c ≡ child_of K par w k
  found w c k l e q = sym (child-at K par w c l e) ∙ ap (child_of K par w) q

  -- every child of an inner vertex is its first or second, of the root its first, second or third
  pub only_two : (c : ℕ) → c < K → par c < K → (c ≡ child_of K par (par c) 0) ⊎ (c ≡ child_of K par (par c) 1)
  only_two c l k = by_cases (ℕ_discrete (count c (kid par (par c))) 0)
      (λ q. inl (found (par c) c 0 l refl q))
      (λ q. inr (found (par c) c 1 l refl (omega (arith, place-less K par (par c) c l refl, two-children (par c) (ok.inner c l) k))))

  pub only-three : (c : ℕ) → c < K → par c ≡ K → (c ≡ child_of K par K 0) ⊎ ((c ≡ child_of K par K 1) ⊎ (c ≡ child_of K par K 2))
  only-three c l e = by_cases (ℕ_discrete (count c (kid par K)) 0)
      (λ q. inl (found K c 0 l e q))
      (λ q. by_cases (ℕ_discrete (count c (kid par K)) 1)
      (λ r. inr (inl (found K c 1 l e r)))
      (λ r. inr (inr (found K c 2 l e (omega (arith, place-less K par K c l e, three-children))))))

  -- they differ
  pub apart-two : (w : ℕ) → N ≤ w → w ≤ K → child_of K par w 0 ≢ child_of K par w 1
  apart-two w h k = child-apart K par w 0 1 (child_of K par w 0) (child_of K par w 1) (child₀ w h k) (child₁ w h k) (omega arith)

  pub apart-first : child_of K par K 0 ≢ child_of K par K 2
  apart-first = child-apart K par K 0 2 (child_of K par K 0) (child_of K par K 2) (child₀ K (omega (arith, ok.edges)) (omega arith)) child₂ (omega arith)

  pub apart-second : child_of K par K 1 ≢ child_of K par K 2
  apart-second = child-apart K par K 1 2 (child_of K par K 1) (child_of K par K 2) (child₁ K (omega (arith, ok.edges)) (omega arith)) child₂ (omega arith)

  -- the sibling of a first child is the second, of any other the first
  pub sibling-first : (c : ℕ) → c ≡ child_of K par (par c) 0 → sibling K par c ≡ child_of K par (par c) 1
  sibling-first c e = rw (eq_yes e)

  pub sibling-later : (c : ℕ) → c ≢ child_of K par (par c) 0 → sibling K par c ≡ child_of K par (par c) 0
  sibling-later c n = rw (eq_no n)

  -- the children by number are the children
  unfoldable pub degree3 : Degree3 N K par
  degree3 = record {
    first = λ w. child_of K par w 0;
    second = λ w. child_of K par w 1;
    third = child_of K par K 2;
    other = sibling K par;
    edge₁ = λ w h k. (child₀ w h k).edge;
    edge₂ = λ w h k. (child₁ w h k).edge;
    edge₃ = child₂.edge;
    under₁ = λ w h k. (child₀ w h k).under;
    under₂ = λ w h k. (child₁ w h k).under;
    under₃ = child₂.under;
    apart₁₂ = apart-two;
    apart₁₃ = apart-first;
    apart₂₃ = apart-second;
    only = only_two;
    only-root = only-three;
    other-first = sibling-first;
    other-later = sibling-later;
  }

  pub sibling-is : (c : ℕ) → c < K → Sibling K par c (sibling K par c)
  unfolding degree3
  sibling-is = other-is N K par ok degree3

  -- the third edge at a vertex: its own, or the root's third child
  third-inner : (w : ℕ) → w < K → third_at K par w ≡ w
  third-inner w h = rw (eq_no {a = w} {b = K} (omega arith))

  third-root : (w : ℕ) → w ≡ K → third_at K par w ≡ child_of K par K 2
  third-root w e = rw (eq_yes e, e)

  beside : (c s : ℕ) → c < K → (par c ≡ K → (c ≢ child_of K par K 2) × (s ≢ child_of K par K 2)) → Farther K par c s (third_at K par (par c))
  beside c s l n = record {
    edge = by_cases (ℕ_discrete (par c) K)
        (λ e. subst (λ y. y < K) (sym (third-root (par c) e)) child₂.edge)
        (λ e. let k : par c < K = omega (arith, ok.top c l) in subst (λ y. y < K) (sym (third-inner (par c) k)) k);
    inside = third-inner (par c);
    at-root = λ e. (ap par (third-root (par c) e) ∙ child₂.under, (λ q. (n e).0 (sym q ∙ third-root (par c) e)), (λ q. (n e).1 (sym q ∙ third-root (par c) e)));
  }

  -- the edge farther on, beside c and its sibling
  pub farther-is : (c : ℕ) → c < K → Farther K par c (sibling K par c) (farther K par c)
  farther-is c l = by_cases (ℕ_discrete c (child_of K par (par c) 0))
      (λ q. rw (eq_yes q) (beside c (child_of K par (par c) 1) l (λ e. (
        (λ z. apart-first (ap (λ y. child_of K par y 0) (sym e) ∙ sym q ∙ z)),
        (λ z. apart-second (ap (λ y. child_of K par y 1) (sym e) ∙ z)),
      ))))
      (λ q. by_cases (ℕ_discrete c (child_of K par (par c) 1))
      (λ r. rw (eq_no q, eq_yes r) (beside c (child_of K par (par c) 0) l (λ e. (
        (λ z. apart-second (ap (λ y. child_of K par y 1) (sym e) ∙ sym r ∙ z)),
        (λ z. apart-first (ap (λ y. child_of K par y 0) (sym e) ∙ z)),
      ))))
      (λ r. rw (eq_no q, eq_no r) (record {
        edge = (child₁ (par c) (ok.inner c l) (ok.top c l)).edge;
        inside = λ k. absurd (neither-two q r (only_two c l k));
        at-root = λ e. ((child₁ (par c) (ok.inner c l) (ok.top c l)).under ∙ e, (λ z. r (sym z)), (λ z. apart-two (par c) (ok.inner c l) (ok.top c l) (sym z)));
      })))
    where
      neither-two : c ≢ child_of K par (par c) 0 → c ≢ child_of K par (par c) 1 → (c ≡ child_of K par (par c) 0) ⊎ (c ≡ child_of K par (par c) 1) → ⊥
      neither-two q r (inl e) = q e
      neither-two q r (inr e) = r e

  -- what holds of each child of an inner vertex and the other holds of every edge under it and its sibling
  pub inner_cases : (F : (c s : ℕ) → Type 0) (w : ℕ) → w < K → F (child_of K par w 0) (child_of K par w 1) → F (child_of K par w 1) (child_of K par w 0)
      → (c : ℕ) → c < K → par c ≡ w → F c (sibling K par c)
  inner_cases F w k f g c l e = go (only_two c l (omega arith))
    where
      go : (c ≡ child_of K par (par c) 0) ⊎ (c ≡ child_of K par (par c) 1) → F c (sibling K par c)
      go (inl q) = subst₂ F (sym (q ∙ ap (λ y. child_of K par y 0) e)) (sym (sibling-first c q ∙ ap (λ y. child_of K par y 1) e)) f
      go (inr q) = subst₂ F (sym (q ∙ ap (λ y. child_of K par y 1) e))
          (sym (sibling-later c (λ z. apart-two (par c) (ok.inner c l) (ok.top c l) (sym z ∙ q)) ∙ ap (λ y. child_of K par y 0) e)) g

  -- what holds of the root's three children holds of every edge under it, its sibling and the one farther on
  pub root_cases : (F : (c s e : ℕ) → Type 0) → F (child_of K par K 0) (child_of K par K 1) (child_of K par K 2)
      → F (child_of K par K 1) (child_of K par K 0) (child_of K par K 2) → F (child_of K par K 2) (child_of K par K 0) (child_of K par K 1)
      → (c : ℕ) → c < K → par c ≡ K → F c (sibling K par c) (farther K par c)
  root_cases F f₀ f₁ f₂ c l e = go (only-three c l e)
    where
      h : N ≤ K
      h = omega (arith, ok.edges)

      go : (c ≡ child_of K par K 0) ⊎ ((c ≡ child_of K par K 1) ⊎ (c ≡ child_of K par K 2)) → F c (sibling K par c) (farther K par c)
      go (inl q) = rw (e, eq_yes q, eq_yes {a = K} {b = K} refl, q) f₀
      go (inr (inl q)) = rw (e, eq_no {a = c} {b = child_of K par K 0} (λ z. apart-two K h (omega arith) (sym z ∙ q)), eq_yes q, eq_yes {a = K} {b = K} refl, q) f₁
      go (inr (inr q)) = rw (e, eq_no {a = c} {b = child_of K par K 0} (λ z. apart-first (sym z ∙ q)), eq_no {a = c} {b = child_of K par K 1} (λ z. apart-second (sym z ∙ q)), q) f₂
