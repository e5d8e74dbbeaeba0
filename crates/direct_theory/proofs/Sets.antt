-- The sets of strains about a vertex of degree three, as weights 0 and 1: below each of its children, and below neither of two. Laws:
-- `two-kids`, `three-kids`: a cluster is its two children's, all strains are the root's three;
-- `other-of-first`, `other-of-later`: siblings by number; `own`, `own-size`: a strain's cluster is itself;
-- `neither-rest`: the strains below neither of two siblings; `bit-pos`, `rest-pos`: no direction is empty; `beyond`: what is not below an edge, seen from either end.
use mathlib.Core.Path.{◌≡◌, refl, sym, ◌∙◌, ap, ap₂, subst}
use mathlib.Core.Bool.{Bool, true, false, not, ◌&&◌}
use mathlib.Core.Logic.{◌≢◌, ◌⊎◌, inl, inr}
use mathlib.Core.List.{[], ◌∷◌}
use Prim.Native.Nat.{ℕ, zero, suc, ◌≤◌, ◌<◌}
use native.Mathlib.Decide.{ℕ_discrete}
use native.Mathlib.Omega.{arith}
use lib.Dec.{eqb}
use lib.IntN.{ℤ, pos, negsuc, ◌+ℤ◌, ◌-ℤ◌, ◌*ℤ◌, +ℤ_idr, zero-*ℤ}
use Rattle.exact.proofs.Ring.{*ℤ-oneʳ, *ℤ-distribʳ}
use Rattle.exact.proofs.Quote.{by-ring, quote, eq_by, z_sub, z*}
use Rattle.exact.proofs.Decide.{by_cases, eq_yes, eq_no}
use Rattle.exact.specs.Order.{◌≤ᶻ◌, ◌<ᶻ◌}
use Rattle.exact.proofs.Order.{nn+, nn_sub, le-by, is-<, <-is}
use Rattle.exact.specs.Sum.{sum, ind}
use Rattle.exact.proofs.Sum.{sum_cong, sum-+, sum-at, sum-zero, sum-nn, ind-yes, ind-no, ind-nn}
use Rattle.tree_theory.specs.Chain.{below, kid}
use Rattle.tree_theory.specs.Allowed.{Allowed}
use Rattle.tree_theory.proofs.Chains.{Up, bit, partition, children, below-yes, below-no, below_true, below_root}
use Rattle.tree_theory.proofs.Strains.{leaf, siblings, third-way}
use Rattle.direct_theory.specs.Averages.{neither}
use Rattle.direct_theory.proofs.Children.{Degree3, Sibling, other-is}

-- the strains below neither
abbrev pub rest : (ℕ → ℕ) → ℕ → ℕ → ℕ → ℤ
rest par c s i = pos 1 -ℤ bit par c i -ℤ bit par s i

-- in either order
pub rest_swap : (par : ℕ → ℕ) (a b i : ℕ) → rest par a b i ≡ rest par b a i
rest_swap par a b i = by-ring (bit par a i ∷ bit par b i ∷ []) (search quote depth 20) tt

-- two tests that exclude each other, and neither
neither-ind : (p q : Bool) → (p ≡ true → q ≡ true → ⊥) → ind (not p && not q) ≡ pos 1 -ℤ ind p -ℤ ind q
unfolding ind
neither-ind true true h = absurd (h refl refl)
neither-ind true false h = refl
neither-ind false true h = refl
neither-ind false false h = refl

-- no strain is below two siblings
pub neither-rest : (par : ℕ → ℕ) (K : ℕ) → Up par K → (c s i : ℕ) → c < K → Sibling K par c s → ind (neither par c s i) ≡ rest par c s i
neither-rest par K up c s i l h = neither-ind (below par i c) (below par i s)
    (λ p q. siblings par K up s c i h.edge l h.apart h.under (below_true par i s q) (below_true par i c p))

-- a sum of what is not negative, and 1 somewhere, is positive
pub sum-pos : (n k : ℕ) (f : ℕ → ℤ) → ((i : ℕ) → i < n → pos 0 ≤ᶻ f i) → k < n → f k ≡ pos 1 → pos 0 <ᶻ sum n f
unfolding sum
sum-pos zero k f h l e = absurd (omega arith)
sum-pos (suc n) k f h l e = let ih : k < n → pos 0 <ᶻ sum n f = λ q. sum-pos n k f (λ i m. h i (omega arith)) q e in let hn = h n (omega arith) in
    by_cases (ℕ_discrete k n)
    (λ q. is-< (le-by (sum-nn n f (λ i m. h i (omega arith))) (ap (λ y. sum n f +ℤ y -ℤ (pos 0 +ℤ pos 1)) (ap f (sym q) ∙ e) ∙ by-ring (sum n f ∷ []) (search quote depth 20) tt)))
    (λ q. is-< (le-by (nn+ (nn_sub (<-is (ih (omega arith)))) hn) (by-ring (sum n f ∷ f n ∷ []) (search quote depth 20) tt)))

module _ (N K : ℕ) (par : ℕ → ℕ) (ok : Allowed N K par) (g : Degree3 N K par) where
  open g use {first, second, third}

  -- ---- the strains of a vertex
  hit : {u k : ℕ} → u ≡ k → ind (eqb u k) ≡ pos 1
  hit e = ind-yes (eq_yes e)

  miss : (u k : ℕ) → u ≢ k → ind (eqb u k) ≡ pos 0
  miss u k e = ind-no (eq_no e)

  -- children by number: u is a child of w where it is one of the two
  is-two : (w u : ℕ) → N ≤ w → w < K → u < K → ind (kid par w u) ≡ ind (eqb u (first w)) +ℤ ind (eqb u (second w))
  is-two w u h k l = by_cases (ℕ_discrete (par u) w)
      (λ e. hit e ∙ sym (child (subst (λ y. (u ≡ first y) ⊎ (u ≡ second y)) e (g.only u l (omega arith)))))
      (λ e. miss (par u) w e ∙ sym (ap₂ ◌+ℤ◌ (miss u (first w) (λ q. e (ap par q ∙ g.under₁ w h (omega arith)))) (miss u (second w) (λ q. e (ap par q ∙ g.under₂ w h (omega arith))))))
    where
      child : (u ≡ first w) ⊎ (u ≡ second w) → ind (eqb u (first w)) +ℤ ind (eqb u (second w)) ≡ pos 1
      child (inl q) = ap₂ ◌+ℤ◌ (hit q) (miss u (second w) (λ s. g.apart₁₂ w h (omega arith) (sym q ∙ s)))
      child (inr q) = ap₂ ◌+ℤ◌ (miss u (first w) (λ s. g.apart₁₂ w h (omega arith) (sym s ∙ q))) (hit q)

  -- every strain has an edge
  pub N≤K : N ≤ K
  N≤K = omega (arith, ok.edges)

  -- the root's are one of the three
  is-three : (u : ℕ) → u < K → ind (kid par K u) ≡ ind (eqb u (first K)) +ℤ ind (eqb u (second K)) +ℤ ind (eqb u third)
  is-three u l = by_cases (ℕ_discrete (par u) K)
      (λ e. hit e ∙ sym (child (g.only-root u l e)))
      (λ e. miss (par u) K e ∙ sym (ap₂ ◌+ℤ◌ (ap₂ ◌+ℤ◌ (miss u (first K) (λ q. e (ap par q ∙ g.under₁ K N≤K (omega arith)))) (miss u (second K) (λ q. e (ap par q ∙ g.under₂ K N≤K (omega arith))))) (miss u third (λ q. e (ap par q ∙ g.under₃)))))
    where
      child : (u ≡ first K) ⊎ ((u ≡ second K) ⊎ (u ≡ third)) → ind (eqb u (first K)) +ℤ ind (eqb u (second K)) +ℤ ind (eqb u third) ≡ pos 1
      child (inl q) = ap₂ ◌+ℤ◌ (ap₂ ◌+ℤ◌ (hit q) (miss u (second K) (λ s. g.apart₁₂ K N≤K (omega arith) (sym q ∙ s)))) (miss u third (λ s. g.apart₁₃ (sym q ∙ s)))
      child (inr (inl q)) = ap₂ ◌+ℤ◌ (ap₂ ◌+ℤ◌ (miss u (first K) (λ s. g.apart₁₂ K N≤K (omega arith) (sym s ∙ q))) (hit q)) (miss u third (λ s. g.apart₂₃ (sym q ∙ s)))
      child (inr (inr q)) = ap₂ ◌+ℤ◌ (ap₂ ◌+ℤ◌ (miss u (first K) (λ s. g.apart₁₃ (sym s ∙ q))) (miss u (second K) (λ s. g.apart₂₃ (sym s ∙ q)))) (hit q)

  -- a cluster is its two children's
  pub two-kids : (w i : ℕ) → i < N → N ≤ w → w < K → bit par w i ≡ bit par (first w) i +ℤ bit par (second w) i
  two-kids w i hi h k = partition par K ok.up w i (omega arith) (omega arith)
      ∙ sum_cong K (λ u l. ap (λ y. y *ℤ bit par u i) (is-two w u h k l) ∙ *ℤ-distribʳ (ind (eqb u (first w))) (ind (eqb u (second w))) (bit par u i))
      ∙ sum-+ K (λ u. ind (eqb u (first w)) *ℤ bit par u i) (λ u. ind (eqb u (second w)) *ℤ bit par u i)
      ∙ ap₂ ◌+ℤ◌ (sum-at K (first w) (λ u. bit par u i) (g.edge₁ w h (omega arith))) (sum-at K (second w) (λ u. bit par u i) (g.edge₂ w h (omega arith)))

  -- all strains are the root's three children's
  pub three-kids : (i : ℕ) → i < N → pos 1 ≡ bit par (first K) i +ℤ bit par (second K) i +ℤ bit par third i
  three-kids i hi = sym (ind-yes (below-yes par i K (below_root par K ok.up ok.top i (omega (arith, N≤K)))))
      ∙ partition par K ok.up K i (omega arith) (omega (arith, N≤K))
      ∙ sum_cong K (λ u l. ap (λ y. y *ℤ bit par u i) (is-three u l) ∙ by-ring (ind (eqb u (first K)) ∷ ind (eqb u (second K)) ∷ ind (eqb u third) ∷ bit par u i ∷ []) (search quote depth 20) tt)
      ∙ sum-+ K (λ u. ind (eqb u (first K)) *ℤ bit par u i +ℤ ind (eqb u (second K)) *ℤ bit par u i) (λ u. ind (eqb u third) *ℤ bit par u i)
      ∙ ap₂ ◌+ℤ◌ (sum-+ K (λ u. ind (eqb u (first K)) *ℤ bit par u i) (λ u. ind (eqb u (second K)) *ℤ bit par u i)
      ∙ ap₂ ◌+ℤ◌ (sum-at K (first K) (λ u. bit par u i) (g.edge₁ K N≤K (omega arith))) (sum-at K (second K) (λ u. bit par u i) (g.edge₂ K N≤K (omega arith))))
      (sum-at K third (λ u. bit par u i) g.edge₃)

  -- ---- the other child
  -- a first child's sibling is the second, any other's the first
  pub other-of-first : (w : ℕ) → N ≤ w → w ≤ K → g.other (first w) ≡ second w
  other-of-first w h k = g.other-first (first w) (ap first (sym (g.under₁ w h k))) ∙ ap second (g.under₁ w h k)

  pub other-of-later : (w c : ℕ) → par c ≡ w → c ≢ first w → g.other c ≡ first w
  other-of-later w c e n = g.other-later c (λ q. n (q ∙ ap first e)) ∙ ap first e

  -- ---- no direction is empty
  -- a strain is below every vertex
  pub bit-pos : (v : ℕ) → v ≤ K → pos 0 <ᶻ sum N (bit par v)
  bit-pos v k = let (i, l, b) = leaf N K par ok v k in sum-pos N i (bit par v) (λ j m. ind-nn (below par j v)) l (ind-yes (below-yes par i v b))

  -- and one below neither an edge nor its sibling
  pub rest-pos : (c : ℕ) → c < K → pos 0 <ᶻ sum N (rest par c (g.other c))
  rest-pos c l = let s = other-is N K par ok g c l in let (k, m, a, b) = third-way N K par ok c (g.other c) l s.edge s.under in
      sum-pos N k (rest par c (g.other c))
      (λ i h. subst (λ y. pos 0 ≤ᶻ y) (neither-rest par K ok.up c (g.other c) i l s) (ind-nn (neither par c (g.other c) i)))
      m (ap₂ (λ x y. pos 1 -ℤ x -ℤ y) (ind-no (below-no par k c a)) (ind-no (below-no par k (g.other c) b)))

  -- ---- a strain's own edge
  -- nothing but the strain is below it
  pub own : (c i : ℕ) → c < N → bit par c i ≡ ind (eqb i c)
  own c i h = children par K ok.up c i (omega (arith, N≤K))
      ∙ ap (λ y. ind (eqb i c) +ℤ y) (sum_cong K (λ u l. ap (λ y. y *ℤ bit par u i) (miss (par u) c (omega (arith, ok.inner u l))) ∙ zero-*ℤ (bit par u i)) ∙ sum-zero K)
      ∙ +ℤ_idr (ind (eqb i c))

  -- so its cluster has size 1
  pub own-size : (c : ℕ) → c < N → sum N (bit par c) ≡ pos 1
  own-size c h = sum_cong N (λ i l. own c i h ∙ sym (*ℤ-oneʳ (ind (eqb i c)))) ∙ sum-at N c (λ i. pos 1) h

  -- ---- the sides of an edge
  -- what is not below c, seen from c's parent and from c
  pub beyond : (c i : ℕ) → i < N → N ≤ c → c < K → bit par (g.other c) i +ℤ rest par c (g.other c) i ≡ rest par (first c) (second c) i
  beyond c i l h k = eq_by (z* (negsuc 0) (z_sub (two-kids c i l h k)))
      (by-ring (bit par c i ∷ bit par (g.other c) i ∷ bit par (first c) i ∷ bit par (second c) i ∷ []) (search quote depth 20) tt)
