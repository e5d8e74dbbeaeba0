-- The lengths of RULES, Resolved trees by split sums. An edge's split sum is the distances between its two sides; the
-- three edges at a vertex of degree three have sides that are all the strains, so each split sum is the distances from
-- one direction to the other two, and those from one to another are half of the two split sums less the third. The tops
-- of specs/Splits are then twice those by averages. Laws:
-- `split_between`, `farther-between`: a split sum is the distances between a set and all others;
-- `twice-own`, `twice-farther`, `twice-sibling`: twice the distances between two directions at an edge's upper end;
-- `outer-top`, `inner-top`: the tops are even, twice `star_of` and twice `edge_of`;
-- `outer-splits`, `inner-splits`: so top over bottom is the edge's length; `edge-positive`: whose own bottom is positive.
use mathlib.Core.Path.{◌≡◌, refl, sym, ◌∙◌, ap, ap₂, subst}
use mathlib.Core.Bool.{Bool, not}
use mathlib.Core.List.{[], ◌∷◌}
use Prim.Native.Nat.{ℕ, ◌≤◌, ◌<◌}
use native.Mathlib.Decide.{ℕ_discrete, dec_lt}
use native.Mathlib.Omega.{arith}
use borrow.Author.Tests.{lt-ltb, le-ltb}
use lib.IntN.{ℤ, pos, negsuc, ◌+ℤ◌, ◌-ℤ◌, ◌*ℤ◌, +ℤ_comm}
use Rattle.exact.proofs.Quote.{by-ring, quote, eq_by, z_sub, z*}
use Rattle.exact.proofs.Decide.{by_cases}
use Rattle.exact.specs.Order.{◌<ᶻ◌}
use Rattle.exact.specs.Sum.{ind}
use Rattle.exact.proofs.Sum.{ind_not}
use Rattle.tree_theory.specs.Allowed.{Allowed}
use Rattle.tree_theory.proofs.Chains.{bit}
use Rattle.exact.specs.Fraction.{Fraction}
use Rattle.direct_theory.specs.Averages.{strains_below, neither, size, either, between}
use Rattle.direct_theory.specs.Children.{Resolved, child_of, sibling, farther}
use Rattle.direct_theory.specs.Formula.{outer_at, inner_at, edge_length}
use Rattle.direct_theory.specs.Splits.{split_at, twice, outer_top, outer_bottom, inner_top, inner_bottom}
use Rattle.direct_theory.proofs.Children.{degree3, sibling-is, farther-is, inner_cases, root_cases, child₀, child₁}
use Rattle.direct_theory.proofs.Quartet.{star_of, edge_of}
use Rattle.direct_theory.proofs.Star.{Same, link, link_cong, link-sym, link-∪ˡ, link-∪ʳ}
use Rattle.direct_theory.proofs.Crossing.{either-sym, split-cross, cross-three}
use Rattle.direct_theory.proofs.Sets.{rest, two-kids, three-kids}
use Rattle.direct_theory.proofs.Sizes.{between-link, between-clusters, between-neither, neither_weights, cluster-some, neither-some, own-one}
use Rattle.direct_theory.proofs.Values.{Value, outer-value, inner-value, outer-positive, inner-positive}

-- ---- the tops by the sums between the sets
-- an outer edge: p, q, r are the sums between the strain and A, the strain and B, A and B
outer-twice : (a b p q r t u v : ℤ) → t ≡ p +ℤ q → u ≡ p +ℤ r → v ≡ q +ℤ r → outer_top a b t u v ≡ pos 2 *ℤ star_of (pos 1) a b p q r
outer-twice a b p q r t u v et eu ev = rw (et, eu, ev) (by-ring (a ∷ b ∷ p ∷ q ∷ r ∷ []) (search quote depth 60 fits 9000) tt)

-- an inner edge
inner-twice : (a b c d ab ac ad bc bd cd t u v x y : ℤ) → t ≡ ac +ℤ bc +ℤ (ad +ℤ bd) → u ≡ ab +ℤ (ac +ℤ ad) → v ≡ ab +ℤ (bc +ℤ bd) → x ≡ ac +ℤ bc +ℤ cd → y ≡ ad +ℤ bd +ℤ cd
    → inner_top a b c d t u v x y ≡ pos 2 *ℤ edge_of a b c d ab ac ad bc bd cd
inner-twice a b c d ab ac ad bc bd cd t u v x y et eu ev ex ey =
    rw (et, eu, ev, ex, ey) (by-ring (a ∷ b ∷ c ∷ d ∷ ab ∷ ac ∷ ad ∷ bc ∷ bd ∷ cd ∷ []) (search quote depth 60 fits 9000) tt)

-- the same fraction twice over
doubled : (f : Fraction) (p q p' q' : ℤ) → Value f p q → p' ≡ pos 2 *ℤ p → q' ≡ pos 2 *ℤ q → f.top *ℤ q' ≡ f.bottom *ℤ p'
doubled f p q p' q' h ep eq = rw (ep, eq) (eq_by (z* (pos 2) (z_sub h)) (by-ring (f.top ∷ f.bottom ∷ p ∷ q ∷ []) (search quote depth 20) tt))

-- all but a set
all_but : (A : ℕ → Bool) (f : ℕ → ℤ) (N : ℕ) → Same N (λ i. ind (A i)) f → Same N (λ i. ind (not (A i))) (λ i. pos 1 -ℤ f i)
all_but A f N h i l = eq_by (z_sub (ind_not (A i))) (by-ring (ind (A i) ∷ ind (not (A i)) ∷ []) (search quote depth 20) tt) ∙ ap (λ y. pos 1 -ℤ y) (h i l)

module _ (N K : ℕ) (par : ℕ → ℕ) (ok : Allowed N K par) (res : Resolved N K par) (d : ℕ × ℕ → ℤ) where
  -- the distances between two sets given by weights
  abbrev S : (ℕ → ℤ) → (ℕ → ℤ) → ℤ
  S = link N (either d)

  abbrev σ : ℕ → ℤ
  σ = split_at N par d

  -- ---- the sets at an edge's upper end
  -- under an inner vertex are an edge and its sibling
  pair-up : (c i : ℕ) → i < N → c < K → par c < K → bit par (par c) i ≡ bit par c i +ℤ bit par (sibling K par c) i
  unfolding degree3
  pair-up c i h l k = let t = two-kids N K par ok (degree3 N K par ok res) (par c) i h (ok.inner c l) k in
      inner_cases N K par ok res (λ u s. bit par (par c) i ≡ bit par u i +ℤ bit par s i) (par c) k
      t (t ∙ +ℤ_comm (bit par (child_of K par (par c) 0) i) (bit par (child_of K par (par c) 1) i)) c l refl

  -- under the root are an edge, its sibling and the one farther on
  three_up : (c i : ℕ) → i < N → c < K → par c ≡ K → pos 1 ≡ bit par c i +ℤ bit par (sibling K par c) i +ℤ bit par (farther K par c) i
  unfolding degree3
  three_up c i h l e = let t = three-kids N K par ok (degree3 N K par ok res) i h in
      root_cases N K par ok res (λ u s v. pos 1 ≡ bit par u i +ℤ bit par s i +ℤ bit par v i)
      t (t ∙ by-ring (x ∷ y ∷ z ∷ []) (search quote depth 20) tt) (t ∙ by-ring (x ∷ y ∷ z ∷ []) (search quote depth 20) tt) c l e
    where
      x : ℤ
      x = bit par (child_of K par K 0) i

      y : ℤ
      y = bit par (child_of K par K 1) i

      z : ℤ
      z = bit par (child_of K par K 2) i

  -- ---- split sums by the three directions there
  module _ (c : ℕ) (l : c < K) where
    abbrev s : ℕ
    s = sibling K par c

    abbrev R : ℕ → ℤ
    R = rest par c (sibling K par c)

    split-own : σ c ≡ S (bit par c) (bit par s) +ℤ S (bit par c) R
    split-own = split-cross N par d c ∙ cross-three N (either d) (either-sym d) (bit par c) (bit par s) R
        (λ i k. by-ring (bit par c i ∷ bit par s i ∷ []) (search quote depth 20) tt)

    split-sibling : σ s ≡ S (bit par c) (bit par s) +ℤ S (bit par s) R
    split-sibling = split-cross N par d s ∙ cross-three N (either d) (either-sym d) (bit par s) (bit par c) R
        (λ i k. by-ring (bit par c i ∷ bit par s i ∷ []) (search quote depth 20) tt)
        ∙ ap (λ y. y +ℤ S (bit par s) R) (link-sym N (either d) (either-sym d) (bit par s) (bit par c))

    -- from the strains below neither to all others
    split_rest : S R (λ i. pos 1 -ℤ R i) ≡ S (bit par c) R +ℤ S (bit par s) R
    split_rest = cross-three N (either d) (either-sym d) R (bit par c) (bit par s) (λ i k. by-ring (bit par c i ∷ bit par s i ∷ []) (search quote depth 20) tt)
        ∙ ap₂ ◌+ℤ◌ (link-sym N (either d) (either-sym d) R (bit par c)) (link-sym N (either d) (either-sym d) R (bit par s))

    farther-cross : σ (farther K par c) ≡ S R (λ i. pos 1 -ℤ R i)
    farther-cross = by_cases (ℕ_discrete (par c) K)
        (λ e. split-cross N par d (farther K par c) ∙ link_cong N (either d) (bit par (farther K par c)) R (λ i. pos 1 -ℤ bit par (farther K par c) i) (λ i. pos 1 -ℤ R i)
        (root e) (λ i k. ap (λ y. pos 1 -ℤ y) (root e i k)))
        (λ e. let k : par c < K = omega (arith, ok.top c l) in
        ap σ ((farther-is N K par ok res c l).inside k) ∙ split-cross N par d (par c)
        ∙ link_cong N (either d) (bit par (par c)) (λ i. pos 1 -ℤ R i) (λ i. pos 1 -ℤ bit par (par c) i) R (inside k)
        (λ i h. ap (λ y. pos 1 -ℤ y) (pair-up c i h l k) ∙ by-ring (bit par c i ∷ bit par s i ∷ []) (search quote depth 20) tt)
        ∙ link-sym N (either d) (either-sym d) (λ i. pos 1 -ℤ R i) R)
      where
        root : par c ≡ K → (i : ℕ) → i < N → bit par (farther K par c) i ≡ R i
        root e i h = eq_by (z* (negsuc 0) (z_sub (three_up c i h l e))) (by-ring (bit par c i ∷ bit par s i ∷ bit par (farther K par c) i ∷ []) (search quote depth 20) tt)

        inside : par c < K → (i : ℕ) → i < N → bit par (par c) i ≡ pos 1 -ℤ R i
        inside k i h = pair-up c i h l k ∙ by-ring (bit par c i ∷ bit par s i ∷ []) (search quote depth 20) tt

    split-farther : σ (farther K par c) ≡ S (bit par c) R +ℤ S (bit par s) R
    split-farther = farther-cross ∙ split_rest

    -- the sums of the averages by weights
    to-own : between N d (strains_below par c) (strains_below par s) ≡ S (bit par c) (bit par s)
    to-own = between-clusters N d par c s

    to-rest : (v : ℕ) → between N d (strains_below par v) (neither par c s) ≡ S (bit par v) R
    to-rest = between-neither N K par ok res d c l

    -- the split sum of the edge farther on: from the strains below neither to all others
    pub farther-between : σ (farther K par c) ≡ between N d (neither par c (sibling K par c)) (λ i. not (neither par c (sibling K par c) i))
    farther-between = farther-cross
        ∙ sym (between-link N d (neither par c s) (λ i. not (neither par c s i)) R (λ i. pos 1 -ℤ R i) (neither_weights N K par ok res c l) (all_but (neither par c s) R N (neither_weights N K par ok res c l)))

    -- twice the distances between the edge's strains and its sibling's, the edge's and those of neither, the sibling's and those
    pub twice-own : twice (σ c) (σ (sibling K par c)) (σ (farther K par c)) ≡ pos 2 *ℤ between N d (strains_below par c) (strains_below par (sibling K par c))
    twice-own = rw (split-own, split-sibling, split-farther, to-own) (by-ring (S (bit par c) (bit par s) ∷ S (bit par c) R ∷ S (bit par s) R ∷ []) (search quote depth 20) tt)

    pub twice-farther : twice (σ c) (σ (farther K par c)) (σ (sibling K par c)) ≡ pos 2 *ℤ between N d (strains_below par c) (neither par c (sibling K par c))
    twice-farther = rw (split-own, split-sibling, split-farther, to-rest c) (by-ring (S (bit par c) (bit par s) ∷ S (bit par c) R ∷ S (bit par s) R ∷ []) (search quote depth 20) tt)

    pub twice-sibling : twice (σ (sibling K par c)) (σ (farther K par c)) (σ c) ≡ pos 2 *ℤ between N d (strains_below par (sibling K par c)) (neither par c (sibling K par c))
    twice-sibling = rw (split-own, split-sibling, split-farther, to-rest (sibling K par c)) (by-ring (S (bit par c) (bit par s) ∷ S (bit par c) R ∷ S (bit par s) R ∷ []) (search quote depth 20) tt)

  -- a split sum is the distances between a cluster and all others
  pub split_between : (v : ℕ) → σ v ≡ between N d (strains_below par v) (λ i. not (strains_below par v i))
  split_between v = split-cross N par d v
      ∙ sym (between-link N d (strains_below par v) (λ i. not (strains_below par v i)) (bit par v) (λ i. pos 1 -ℤ bit par v i) (λ i k. refl) (all_but (strains_below par v) (bit par v) N (λ i k. refl)))

  -- ---- an outer edge
  -- the top is twice that by averages
  pub outer-top : (c : ℕ) → c < N → outer_top (size N (strains_below par (sibling K par c))) (size N (neither par c (sibling K par c))) (σ c) (σ (sibling K par c)) (σ (farther K par c))
      ≡ pos 2 *ℤ star_of (pos 1) (size N (strains_below par (sibling K par c))) (size N (neither par c (sibling K par c)))
      (between N d (strains_below par c) (strains_below par (sibling K par c))) (between N d (strains_below par c) (neither par c (sibling K par c))) (between N d (strains_below par (sibling K par c)) (neither par c (sibling K par c)))
  outer-top c k = let l : c < K = omega (arith, ok.edges) in let s = sibling K par c in
      outer-twice (size N (strains_below par s)) (size N (neither par c s)) (between N d (strains_below par c) (strains_below par s)) (between N d (strains_below par c) (neither par c s)) (between N d (strains_below par s) (neither par c s))
      (σ c) (σ s) (σ (farther K par c))
      (split-own c l ∙ sym (ap₂ ◌+ℤ◌ (to-own c l) (to-rest c l c)))
      (split-sibling c l ∙ sym (ap₂ ◌+ℤ◌ (to-own c l) (to-rest c l s)))
      (split-farther c l ∙ sym (ap₂ ◌+ℤ◌ (to-rest c l c) (to-rest c l s)))

  -- the length of an outer edge by split sums
  pub outer-splits : (c : ℕ) → c < N → (edge_length N K par d c).top *ℤ outer_bottom (size N (strains_below par (sibling K par c))) (size N (neither par c (sibling K par c)))
      ≡ (edge_length N K par d c).bottom *ℤ outer_top (size N (strains_below par (sibling K par c))) (size N (neither par c (sibling K par c))) (σ c) (σ (sibling K par c)) (σ (farther K par c))
  outer-splits c k = let s = sibling K par c in let I = strains_below par c in let A = strains_below par s in let B = neither par c s in
      rw (lt-ltb c N k) (doubled (outer_at N K par d c)
      (star_of (pos 1) (size N A) (size N B) (between N d I A) (between N d I B) (between N d A B)) (pos 2 *ℤ (pos 1 *ℤ (size N A *ℤ size N B)))
      (outer_top (size N A) (size N B) (σ c) (σ s) (σ (farther K par c))) (outer_bottom (size N A) (size N B))
      (subst (λ i. Value (outer_at N K par d c) (star_of i (size N A) (size N B) (between N d I A) (between N d I B) (between N d A B)) (pos 2 *ℤ (i *ℤ (size N A *ℤ size N B))))
      (own-one N K par ok res c k) (outer-value N d I A B))
      (outer-top c k) (by-ring (size N A ∷ size N B ∷ []) (search quote depth 20) tt))

  -- ---- an inner edge
  module _ (c : ℕ) (h : N ≤ c) (l : c < K) where
    abbrev x : ℕ
    x = child_of K par c 0

    abbrev y : ℕ
    y = child_of K par c 1

    -- the edge's strains are its two children's
    both : Same N (bit par c) (λ i. bit par x i +ℤ bit par y i)
    unfolding degree3
    both i k = two-kids N K par ok (degree3 N K par ok res) c i k h l

    -- from the edge's strains to a set, child by child
    from-both : (Z : ℕ → ℤ) → S (bit par c) Z ≡ S (bit par x) Z +ℤ S (bit par y) Z
    from-both Z = link_cong N (either d) (bit par c) (λ i. bit par x i +ℤ bit par y i) Z Z both (λ i k. refl) ∙ link-∪ˡ N (either d) (bit par x) (bit par y) Z

    split-edge : σ c ≡ S (bit par x) (bit par (s c l)) +ℤ S (bit par y) (bit par (s c l)) +ℤ (S (bit par x) (R c l) +ℤ S (bit par y) (R c l))
    split-edge = split-own c l ∙ ap₂ ◌+ℤ◌ (from-both (bit par (s c l))) (from-both (R c l))

    split-first : σ x ≡ S (bit par x) (bit par y) +ℤ (S (bit par x) (bit par (s c l)) +ℤ S (bit par x) (R c l))
    split-first = split-cross N par d x ∙ cross-three N (either d) (either-sym d) (bit par x) (bit par y) (λ i. bit par (s c l) i +ℤ R c l i)
        (λ i k. eq_by (z_sub (both i k)) (by-ring (bit par c i ∷ bit par (s c l) i ∷ bit par x i ∷ bit par y i ∷ []) (search quote depth 20) tt))
        ∙ ap (λ z. S (bit par x) (bit par y) +ℤ z) (link-∪ʳ N (either d) (either-sym d) (bit par x) (bit par (s c l)) (R c l))

    split-second : σ y ≡ S (bit par x) (bit par y) +ℤ (S (bit par y) (bit par (s c l)) +ℤ S (bit par y) (R c l))
    split-second = split-cross N par d y ∙ cross-three N (either d) (either-sym d) (bit par y) (bit par x) (λ i. bit par (s c l) i +ℤ R c l i)
        (λ i k. eq_by (z_sub (both i k)) (by-ring (bit par c i ∷ bit par (s c l) i ∷ bit par x i ∷ bit par y i ∷ []) (search quote depth 20) tt))
        ∙ ap₂ ◌+ℤ◌ (link-sym N (either d) (either-sym d) (bit par y) (bit par x)) (link-∪ʳ N (either d) (either-sym d) (bit par y) (bit par (s c l)) (R c l))

    -- the top is twice that by averages
    pub inner-top : inner_top (size N (strains_below par (child_of K par c 0))) (size N (strains_below par (child_of K par c 1))) (size N (strains_below par (sibling K par c))) (size N (neither par c (sibling K par c)))
        (σ c) (σ (child_of K par c 0)) (σ (child_of K par c 1)) (σ (sibling K par c)) (σ (farther K par c))
        ≡ pos 2 *ℤ edge_of (size N (strains_below par (child_of K par c 0))) (size N (strains_below par (child_of K par c 1))) (size N (strains_below par (sibling K par c))) (size N (neither par c (sibling K par c)))
        (between N d (strains_below par (child_of K par c 0)) (strains_below par (child_of K par c 1))) (between N d (strains_below par (child_of K par c 0)) (strains_below par (sibling K par c)))
        (between N d (strains_below par (child_of K par c 0)) (neither par c (sibling K par c))) (between N d (strains_below par (child_of K par c 1)) (strains_below par (sibling K par c)))
        (between N d (strains_below par (child_of K par c 1)) (neither par c (sibling K par c))) (between N d (strains_below par (sibling K par c)) (neither par c (sibling K par c)))
    inner-top = let w = sibling K par c in
        rw (between-clusters N d par x y, between-clusters N d par x w, between-clusters N d par y w, to-rest c l x, to-rest c l y, to-rest c l w)
        (inner-twice (size N (strains_below par x)) (size N (strains_below par y)) (size N (strains_below par w)) (size N (neither par c w))
        (S (bit par x) (bit par y)) (S (bit par x) (bit par w)) (S (bit par x) (R c l)) (S (bit par y) (bit par w)) (S (bit par y) (R c l)) (S (bit par w) (R c l))
        (σ c) (σ x) (σ y) (σ w) (σ (farther K par c))
        split-edge split-first split-second
        (split-sibling c l ∙ ap (λ z. z +ℤ S (bit par w) (R c l)) (from-both (bit par w)))
        (split-farther c l ∙ ap (λ z. z +ℤ S (bit par w) (R c l)) (from-both (R c l))))

    -- the length of an inner edge by split sums
    pub inner-splits : (edge_length N K par d c).top
        *ℤ inner_bottom (size N (strains_below par (child_of K par c 0))) (size N (strains_below par (child_of K par c 1))) (size N (strains_below par (sibling K par c))) (size N (neither par c (sibling K par c)))
        ≡ (edge_length N K par d c).bottom
        *ℤ inner_top (size N (strains_below par (child_of K par c 0))) (size N (strains_below par (child_of K par c 1))) (size N (strains_below par (sibling K par c))) (size N (neither par c (sibling K par c)))
        (σ c) (σ (child_of K par c 0)) (σ (child_of K par c 1)) (σ (sibling K par c)) (σ (farther K par c))
    inner-splits = let w = sibling K par c in let A = strains_below par x in let B = strains_below par y in let C = strains_below par w in let E = neither par c w in
        let a = size N A in let b = size N B in let m = size N C in let n = size N E in
        rw (le-ltb c N h) (doubled (inner_at N K par d c)
        (edge_of a b m n (between N d A B) (between N d A C) (between N d A E) (between N d B C) (between N d B E) (between N d C E))
        (pos 2 *ℤ (a *ℤ b *ℤ (m *ℤ n)) *ℤ ((a +ℤ b) *ℤ (m +ℤ n)))
        (inner_top a b m n (σ c) (σ x) (σ y) (σ w) (σ (farther K par c))) (inner_bottom a b m n)
        (inner-value N d A B C E) inner-top (by-ring (a ∷ b ∷ m ∷ n ∷ []) (search quote depth 40) tt))

  -- ---- every edge's own bottom is positive
  pub edge-positive : (c : ℕ) → c < K → pos 0 <ᶻ (edge_length N K par d c).bottom
  edge-positive c l = by_cases (dec_lt c N)
      (λ k. rw (lt-ltb c N k) (outer-positive N d (strains_below par c) (strains_below par w) (neither par c w) (some c (omega arith)) (some w sib) (neither-some N K par ok res c l)))
      (λ k. let h : N ≤ c = omega arith in let g : c ≤ K = omega arith in
      rw (le-ltb c N h) (inner-positive N d (strains_below par (child_of K par c 0)) (strains_below par (child_of K par c 1)) (strains_below par w) (neither par c w)
      (some (child_of K par c 0) (omega (arith, (child₀ N K par ok res c h g).edge))) (some (child_of K par c 1) (omega (arith, (child₁ N K par ok res c h g).edge)))
      (some w sib) (neither-some N K par ok res c l)))
    where
      w : ℕ
      w = sibling K par c

      some : (v : ℕ) → v ≤ K → pos 0 <ᶻ size N (strains_below par v)
      some v k = cluster-some N K par ok res v k

      sib : sibling K par c ≤ K
      sib = omega (arith, (sibling-is N K par ok res c l).edge)
