-- The table of children: what a turn of the loop that fills it does (`Listed-next`), and what it tells of an edge's neighbours.
use mathlib.Core.Path.{◌≡◌, refl, sym, ◌∙◌, ap, subst}
use mathlib.Core.Bool.{Bool, true, false, cond, ◌&&◌}
use mathlib.Core.Logic.{◌≢◌}
use mathlib.Core.List.{List}
use Prim.Native.Nat.{ℕ, zero, suc, ◌+◌, ◌*◌, ◌≤◌, ◌<◌}
use native.Mathlib.Decide.{ℕ_discrete}
use native.Mathlib.Numerals.{add-one}
use native.Mathlib.Omega.{arith}
use lib.Dec.{eqb}
use lib.ListN.{length, get_or, set}
use lib.Seq.{get_or-set_same, get_or-set_other}
use Rattle.exact.proofs.Decide.{by_cases, eq_yes, eq_no}
use Rattle.verdict.specs.Table.{count}
use Rattle.tree_theory.specs.Limits.{max_edges}
use Rattle.tree_theory.specs.Chain.{kid}
use Rattle.tree_theory.specs.Allowed.{Allowed, children}
use Rattle.neighbours.specs.Listed.{child_room}
use Rattle.direct_theory.specs.Children.{child_to, child_of, sibling, third_at, farther, Resolved}
use Rattle.direct_theory.proofs.Children.{place-less, two-children, three-children}

-- ---- neighbours by cases
module _ (K : ℕ) (par : ℕ → ℕ) (c : ℕ) where
  pub sibling-second : c ≡ child_of K par (par c) 0 → sibling K par c ≡ child_of K par (par c) 1
  sibling-second e = rw (eq_yes e)

  pub sibling-first : c ≢ child_of K par (par c) 0 → sibling K par c ≡ child_of K par (par c) 0
  sibling-first n = rw (eq_no n)

  pub farther-second : c ≢ child_of K par (par c) 0 → c ≢ child_of K par (par c) 1 → farther K par c ≡ child_of K par (par c) 1
  farther-second n m = rw (eq_no n, eq_no m)

  -- c is one of the first two
  third : Dec (c ≡ child_of K par (par c) 0) → (c ≢ child_of K par (par c) 0 → c ≡ child_of K par (par c) 1) → farther K par c ≡ third_at K par (par c)
  third (yes e) h = rw (eq_yes e)
  third (no n) h = rw (eq_no n, eq_yes (h n))

  pub farther-child : (c ≢ child_of K par (par c) 0 → c ≡ child_of K par (par c) 1) → par c ≡ K → farther K par c ≡ child_of K par (par c) 2
  farther-child h e = third (ℕ_discrete c (child_of K par (par c) 0)) h ∙ at e
    where
      at : par c ≡ K → third_at K par (par c) ≡ child_of K par (par c) 2
      at e = rw (eq_yes e)

  pub farther-own : (c ≢ child_of K par (par c) 0 → c ≡ child_of K par (par c) 1) → par c ≢ K → farther K par c ≡ par c
  farther-own h n = third (ℕ_discrete c (child_of K par (par c) 0)) h ∙ at n
    where
      at : par c ≢ K → third_at K par (par c) ≡ par c
      at n = rw (eq_no n)

-- ---- filling the table
-- no child's number is past the vertices met
pub child-le : (par : ℕ → ℕ) (w k v : ℕ) → child_to par w k v ≤ v
unfolding child_to
child-le par w k zero = omega arith
child-le par w k (suc v) = let ih = child-le par w k v in go (kid par w v && eqb (count v (kid par w)) k) ih
  where
    go : (b : Bool) → child_to par w k v ≤ v → cond b v (child_to par w k v) ≤ suc v
    go true h = omega arith
    go false h = omega arith

-- before vertex v: child k of w among the vertices below v stands at 3w + k
abbrev pub Lists : (ℕ → ℕ) → ℕ → List ℕ → Type 0
Lists par v l = (w k : ℕ) → w ≤ max_edges → k < 3 → get_or l (3 * w + k) 0 ≡ child_to par w k v

pub lists_none : (par : ℕ → ℕ) (l : List ℕ) → ((k : ℕ) → get_or l k 0 ≡ 0) → Lists par 0 l
unfolding child_to
lists_none par l h w k _ _ = h (3 * w + k)

module _ (par : ℕ → ℕ) where
  next : (w k v : ℕ) → child_to par w k (v + 1) ≡ cond (kid par w v && eqb (count v (kid par w)) k) v (child_to par w k v)
  unfolding child_to
  next w k v = rw add-one

  -- v is child k of w
  placed : (w k v : ℕ) → w ≡ par v → count v (kid par w) ≡ k → child_to par w k (v + 1) ≡ v
  placed w k v e q = next w k v ∙ go (kid par w v) (eqb (count v (kid par w)) k) (eq_yes (sym e)) (eq_yes q)
    where
      go : (a b : Bool) → a ≡ true → b ≡ true → cond (a && b) v (child_to par w k v) ≡ v
      go a b p q = rw (p, q)

  -- another place
  other : (w k v : ℕ) → count v (kid par w) ≢ k → child_to par w k (v + 1) ≡ child_to par w k v
  other w k v q = next w k v ∙ go (kid par w v) (eqb (count v (kid par w)) k) (eq_no q)
    where
      go : (a b : Bool) → b ≡ false → cond (a && b) v (child_to par w k v) ≡ child_to par w k v
      go true b q = rw q
      go false b q = refl

  -- another vertex
  elsewhere : (w k v : ℕ) → w ≢ par v → child_to par w k (v + 1) ≡ child_to par w k v
  elsewhere w k v n = next w k v ∙ go (kid par w v) (eqb (count v (kid par w)) k) (eq_no (λ q. n (sym q)))
    where
      go : (a b : Bool) → a ≡ false → cond (a && b) v (child_to par w k v) ≡ child_to par w k v
      go a b p = rw p

  -- vertex v is put behind the children that its parent has so far
  pub lists_more : (v : ℕ) (l : List ℕ) → length l ≡ child_room → par v ≤ max_edges → count v (kid par (par v)) < 3
      → Lists par v l → Lists par (v + 1) (set l (3 * par v + count v (kid par (par v))) v)
  lists_more v l size few room h w k hw hk = by_cases (ℕ_discrete w (par v))
      (λ e. by_cases (ℕ_discrete (count v (kid par (par v))) k)
      (λ q. subst (λ x. get_or new x 0 ≡ child_to par w k (v + 1)) (omega arith) (get_or-set_same l at v 0 (omega arith) ∙ sym (placed w k v e (ap (λ y. count v (kid par y)) e ∙ q))))
      (λ q. get_or-set_other l at (3 * w + k) v 0 (omega arith) ∙ h w k hw hk ∙ sym (other w k v (λ t. q (sym (ap (λ y. count v (kid par y)) e) ∙ t)))))
      (λ e. get_or-set_other l at (3 * w + k) v 0 (omega arith) ∙ h w k hw hk ∙ sym (elsewhere w k v e))
    where
      at : ℕ
      at = 3 * par v + count v (kid par (par v))

      new : List ℕ
      new = set l at v

-- there is room for v: its parent has at most three children
pub room : (N K : ℕ) (par : ℕ → ℕ) → Allowed N K par → Resolved N K par → (v : ℕ) → v < K → count v (kid par (par v)) < 3
room N K par ok res v l = by_cases (ℕ_discrete (par v) K)
    (λ e. omega (arith, place-less K par (par v) v l refl, ap (children K par) e, three-children N K par ok res))
    (λ e. omega (arith, place-less K par (par v) v l refl, two-children N K par ok res (par v) (ok.inner v l) (omega (arith, ok.top v l))))
