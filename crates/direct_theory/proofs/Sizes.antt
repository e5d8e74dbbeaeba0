-- How many strains the sets about an edge have, and the distances between them, as sums of weights 0 and 1. Laws:
-- `size-sum`, `between-link`, `between-clusters`, `between-neither`: sizes and sums between sets, from their weights;
-- `size-count`: a size is a count; `size-neither`: what is below neither of two siblings is the rest;
-- `cluster-some`, `neither-some`, `cluster-least`, `neither-least`: no set about an edge is empty; `own-one`: a strain's cluster has one strain;
-- `outer-all`, `inner-all`: the sets about an edge are all the strains.
use mathlib.Core.Path.{◌≡◌, refl, sym, ◌∙◌, ap₂, subst}
use mathlib.Core.Bool.{Bool}
use mathlib.Core.List.{[], ◌∷◌}
use Prim.Native.Nat.{ℕ, ◌≤◌, ◌<◌}
use native.Mathlib.Omega.{arith}
use lib.IntN.{ℤ, pos, neg_ℤ, ◌+ℤ◌, ◌-ℤ◌}
use Rattle.exact.proofs.Ring.{*ℤ-oneʳ}
use Rattle.exact.proofs.Quote.{by-ring, quote}
use Rattle.exact.specs.Order.{◌≤ᶻ◌, ◌<ᶻ◌}
use Rattle.exact.proofs.Order.{<-is}
use Rattle.exact.specs.Sum.{sum, ind}
use Rattle.exact.proofs.Sum.{sum_cong, sum-+, sum_neg, sum_const}
use Rattle.verdict.specs.Table.{count}
use Rattle.tree_theory.specs.Chain.{below}
use Rattle.tree_theory.specs.Allowed.{Allowed}
use Rattle.tree_theory.proofs.Chains.{Up, bit}
use Rattle.tree_theory.proofs.Counts.{sum-count}
use Rattle.direct_theory.specs.Averages.{strains_below, neither, size, either, between}
use Rattle.direct_theory.specs.Children.{Resolved, child_of, sibling}
use Rattle.direct_theory.proofs.Children.{Sibling, degree3, sibling-is}
use Rattle.direct_theory.proofs.Star.{Same, link, link_cong}
use Rattle.direct_theory.proofs.Sets.{rest, neither-rest, two-kids, bit-pos, rest-pos, own-size}

-- ---- sets as weights
module _ (N : ℕ) where
  -- a set's size by its weights
  pub size-sum : (A : ℕ → Bool) (f : ℕ → ℤ) → Same N (λ i. ind (A i)) f → size N A ≡ sum N f
  unfolding size
  size-sum A f h = sum_cong N h

  -- the sum between two sets by the weights of the two
  between-ind : (d : ℕ × ℕ → ℤ) (A B : ℕ → Bool) → between N d A B ≡ link N (either d) (λ i. ind (A i)) (λ i. ind (B i))
  unfolding between link
  between-ind d A B = refl

  pub between-link : (d : ℕ × ℕ → ℤ) (A B : ℕ → Bool) (f g : ℕ → ℤ) → Same N (λ i. ind (A i)) f → Same N (λ i. ind (B i)) g
      → between N d A B ≡ link N (either d) f g
  between-link d A B f g p q = between-ind d A B ∙ link_cong N (either d) (λ i. ind (A i)) f (λ i. ind (B i)) g p q

  -- between two clusters
  pub between-clusters : (d : ℕ × ℕ → ℤ) (par : ℕ → ℕ) (u v : ℕ) → between N d (strains_below par u) (strains_below par v) ≡ link N (either d) (bit par u) (bit par v)
  between-clusters d par u v = between-link d (strains_below par u) (strains_below par v) (bit par u) (bit par v) (λ i l. refl) (λ i l. refl)

  -- a cluster's size, by its weights and as a count
  pub size-cluster : (par : ℕ → ℕ) (v : ℕ) → size N (strains_below par v) ≡ sum N (bit par v)
  size-cluster par v = size-sum (strains_below par v) (bit par v) (λ i l. refl)

  pub size-count : (A : ℕ → Bool) → size N A ≡ pos (count N A)
  unfolding size
  size-count A = sum-count N A

  -- what is left beside two sets
  rest_sum : (par : ℕ → ℕ) (c s : ℕ) → sum N (rest par c s) ≡ pos N -ℤ sum N (bit par c) -ℤ sum N (bit par s)
  rest_sum par c s = sum-+ N (λ i. pos 1 -ℤ bit par c i) (λ i. neg_ℤ (bit par s i))
      ∙ ap₂ ◌+ℤ◌ (sum-+ N (λ i. pos 1) (λ i. neg_ℤ (bit par c i)) ∙ ap₂ ◌+ℤ◌ (sum_const N (pos 1) ∙ *ℤ-oneʳ (pos N)) (sum_neg N (bit par c))) (sum_neg N (bit par s))

  module _ (par : ℕ → ℕ) (K : ℕ) (up : Up par K) (c s : ℕ) (l : c < K) (h : Sibling K par c s) where
    -- those below neither of two siblings, by their weights and by the two clusters
    pub size-rest : size N (neither par c s) ≡ sum N (rest par c s)
    size-rest = size-sum (neither par c s) (rest par c s) (λ i k. neither-rest par K up c s i l h)

    pub size-neither : size N (neither par c s) ≡ pos N -ℤ size N (strains_below par c) -ℤ size N (strains_below par s)
    size-neither = size-rest ∙ rest_sum par c s ∙ ap₂ (λ x y. pos N -ℤ x -ℤ y) (sym (size-cluster par c)) (sym (size-cluster par s))

-- ---- the sets about an edge of a resolved tree
module _ (N K : ℕ) (par : ℕ → ℕ) (ok : Allowed N K par) (res : Resolved N K par) where
  -- a vertex has strains below it
  pub cluster-some : (v : ℕ) → v ≤ K → pos 0 <ᶻ size N (strains_below par v)
  cluster-some v h = subst (λ y. pos 0 <ᶻ y) (sym (size-cluster N par v)) (bit-pos N K par ok (degree3 N K par ok res) v h)

  -- an edge's parent has strains beside those of the edge and of its sibling
  pub neither-some : (c : ℕ) → c < K → pos 0 <ᶻ size N (neither par c (sibling K par c))
  unfolding degree3
  neither-some c l = subst (λ y. pos 0 <ᶻ y) (sym (size-rest N par K ok.up c (sibling K par c) l (sibling-is N K par ok res c l)))
      (rest-pos N K par ok (degree3 N K par ok res) c l)

  -- so each has 1 or more
  pub cluster-least : (v : ℕ) → v ≤ K → pos 1 ≤ᶻ size N (strains_below par v)
  cluster-least v h = <-is (cluster-some v h)

  pub neither-least : (c : ℕ) → c < K → pos 1 ≤ᶻ size N (neither par c (sibling K par c))
  neither-least c l = <-is (neither-some c l)

  -- the weights of those below neither, and the distances from a cluster to them
  pub neither_weights : (c : ℕ) → c < K → Same N (λ i. ind (neither par c (sibling K par c) i)) (rest par c (sibling K par c))
  neither_weights c l i k = neither-rest par K ok.up c (sibling K par c) i l (sibling-is N K par ok res c l)

  pub between-neither : (d : ℕ × ℕ → ℤ) (c : ℕ) → c < K → (v : ℕ)
      → between N d (strains_below par v) (neither par c (sibling K par c)) ≡ link N (either d) (bit par v) (rest par c (sibling K par c))
  between-neither d c l v = between-link N d (strains_below par v) (neither par c (sibling K par c)) (bit par v) (rest par c (sibling K par c)) (λ i k. refl) (neither_weights c l)

  -- a strain's cluster is the strain alone
  pub own-one : (c : ℕ) → c < N → size N (strains_below par c) ≡ pos 1
  own-one c h = size-cluster N par c ∙ own-size N K par ok (degree3 N K par ok res) c h

  -- below an inner edge are its two children's strains
  pub size-two : (c : ℕ) → N ≤ c → c < K → size N (strains_below par c) ≡ size N (strains_below par (child_of K par c 0)) +ℤ size N (strains_below par (child_of K par c 1))
  unfolding degree3
  size-two c h l = size-cluster N par c ∙ sum_cong N (λ i k. two-kids N K par ok (degree3 N K par ok res) c i k h l)
      ∙ sum-+ N (bit par (child_of K par c 0)) (bit par (child_of K par c 1))
      ∙ ap₂ ◌+ℤ◌ (sym (size-cluster N par (child_of K par c 0))) (sym (size-cluster N par (child_of K par c 1)))

  -- the strain, A and B are all the strains
  pub outer-all : (c : ℕ) → c < N → pos 1 +ℤ size N (strains_below par (sibling K par c)) +ℤ size N (neither par c (sibling K par c)) ≡ pos N
  outer-all c h = let l : c < K = omega (arith, ok.edges) in
      ap₂ (λ x y. x +ℤ size N (strains_below par (sibling K par c)) +ℤ y) (sym (own-one c h)) (size-neither N par K ok.up c (sibling K par c) l (sibling-is N K par ok res c l))
      ∙ by-ring (size N (strains_below par c) ∷ size N (strains_below par (sibling K par c)) ∷ pos N ∷ []) (search quote depth 20) tt

  -- A, B, C and D are all the strains
  pub inner-all : (c : ℕ) → N ≤ c → c < K → size N (strains_below par (child_of K par c 0)) +ℤ size N (strains_below par (child_of K par c 1))
      +ℤ (size N (strains_below par (sibling K par c)) +ℤ size N (neither par c (sibling K par c))) ≡ pos N
  inner-all c h l = ap₂ (λ x y. x +ℤ (size N (strains_below par (sibling K par c)) +ℤ y)) (sym (size-two c h l)) (size-neither N par K ok.up c (sibling K par c) l (sibling-is N K par ok res c l))
      ∙ by-ring (size N (strains_below par c) ∷ size N (strains_below par (sibling K par c)) ∷ pos N ∷ []) (search quote depth 20) tt
