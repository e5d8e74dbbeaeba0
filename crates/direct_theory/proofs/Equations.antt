-- The lengths of RULES, Resolved trees meet every edge's equation. The sum of remainders of an edge is D times the
-- distances between its two sides less the paths between them (`edge-sides`); every such path goes by way of the edge's
-- upper end, so the paths are those from each side to that end (`link-along`); and what these are is the law of three
-- directions there, which the lengths meet (Resolved).
-- `equations`: so over any common denominator the lengths in lowest terms, or in any other, are a fit.
use mathlib.Core.Path.{◌≡◌, refl, sym, ◌∙◌, ap, ap₂}
use mathlib.Core.Bool.{Bool, true, false, cond}
use mathlib.Core.List.{[], ◌∷◌}
use Prim.Native.Nat.{ℕ, ◌≤◌, ◌<◌}
use native.Mathlib.Omega.{arith}
use borrow.Author.Tests.{lt-ltb, le-ltb}
use lib.Dec.{ltb}
use lib.IntN.{ℤ, pos, neg_ℤ, ◌+ℤ◌, ◌-ℤ◌, ◌*ℤ◌}
use Rattle.exact.proofs.Quote.{by-ring, quote, z_sub}
use Rattle.exact.proofs.Decide.{by_cases}
use Rattle.exact.specs.Order.{◌<ᶻ◌}
use Rattle.exact.proofs.Order.{is-<, pos-≤}
use Rattle.exact.specs.Sum.{sum, pairs}
use Rattle.exact.proofs.Sum.{sum_cong, sum-+, sum-*, sum-*ʳ, sum_neg, pairs_cong, ind-sq, ind-yes, ind-no}
use Rattle.exact.specs.LeastSquares.{path, edge_sum, Equations}
use Rattle.tree_theory.specs.Chain.{below, parts_pair}
use Rattle.tree_theory.specs.Allowed.{Allowed}
use Rattle.tree_theory.proofs.Chains.{bit, along, along-sym, parts-ind, below?, below-yes, below-no}
use Rattle.tree_theory.proofs.Directions.{through}
use Rattle.direct_theory.specs.Averages.{strains_below, neither, size, either, between}
use Rattle.direct_theory.specs.Children.{Resolved, child_of, sibling}
use Rattle.direct_theory.specs.Formula.{outer_at, inner_at, edge_length}
use Rattle.direct_theory.proofs.Children.{Degree3, degree3, other-is, sibling-is, child₀, child₁}
use Rattle.direct_theory.proofs.Quartet.{star_of, edge_of, IsStar, IsEdge}
use Rattle.direct_theory.proofs.Star.{Same, link, reach, Edge, Three, link_cong, link-∪ʳ, reach_cong, reach-∪, three-meets}
use Rattle.direct_theory.proofs.Crossing.{pairs-cross, either_lt, either-sym}
use Rattle.direct_theory.proofs.Sets.{rest, bit-pos, rest-pos}
use Rattle.direct_theory.proofs.Sizes.{between-clusters, between-neither, size-cluster, size-rest, cluster-some, neither-some, own-one}
use Rattle.direct_theory.proofs.Resolved.{star}
use Rattle.direct_theory.proofs.Values.{outer-value, inner-value, outer-positive, inner-positive, value_same, value-common}

-- ---- paths and remainders between the two sides of an edge
module _ (N K : ℕ) (par : ℕ → ℕ) (ok : Allowed N K par) (x : ℕ → ℤ) where
  -- all paths over the edge v, by way of its upper end
  link-along : (v : ℕ) → v < K → link N (along par K x) (bit par v) (λ j. pos 1 -ℤ bit par v j)
      ≡ sum N (λ j. pos 1 -ℤ bit par v j) *ℤ reach N (along par K x) (bit par v) (par v) +ℤ sum N (bit par v) *ℤ reach N (along par K x) (λ j. pos 1 -ℤ bit par v j) (par v)
  unfolding link reach
  link-along v l =
      sum_cong N (λ i a. sum_cong N (λ j b. at i j ∙ by-ring (B i ∷ B j ∷ R i ∷ R j ∷ []) (search quote depth 20) tt)
      ∙ sum-+ N (λ j. B i *ℤ R i *ℤ (pos 1 -ℤ B j)) (λ j. B i *ℤ ((pos 1 -ℤ B j) *ℤ R j))
      ∙ ap₂ ◌+ℤ◌ (sum-* N (B i *ℤ R i) (λ j. pos 1 -ℤ B j)) (sum-* N (B i) (λ j. (pos 1 -ℤ B j) *ℤ R j)))
      ∙ sum-+ N (λ i. B i *ℤ R i *ℤ sum N (λ j. pos 1 -ℤ B j)) (λ i. B i *ℤ sum N (λ j. (pos 1 -ℤ B j) *ℤ R j))
      ∙ ap₂ ◌+ℤ◌ (sum-*ʳ N (sum N (λ j. pos 1 -ℤ B j)) (λ i. B i *ℤ R i)) (sum-*ʳ N (sum N (λ j. (pos 1 -ℤ B j) *ℤ R j)) B)
      ∙ by-ring (sum N (λ i. B i *ℤ R i) ∷ sum N (λ j. pos 1 -ℤ B j) ∷ sum N B ∷ sum N (λ j. (pos 1 -ℤ B j) *ℤ R j) ∷ []) (search quote depth 20) tt
    where
      B : ℕ → ℤ
      B i = bit par v i

      R : ℕ → ℤ
      R i = along par K x i (par v)

      at : (i j : ℕ) → B i *ℤ (pos 1 -ℤ B j) *ℤ along par K x i j ≡ B i *ℤ (pos 1 -ℤ B j) *ℤ (R i +ℤ R j)
      at i j = by_cases (below? par i v)
          (λ p. by_cases (below? par j v)
          (λ q. ap (λ y. B i *ℤ (pos 1 -ℤ y) *ℤ along par K x i j) (ind-yes (below-yes par j v q)) ∙ by-ring (B i ∷ along par K x i j ∷ R i ∷ R j ∷ []) (search quote depth 20) tt
          ∙ ap (λ y. B i *ℤ (pos 1 -ℤ y) *ℤ (R i +ℤ R j)) (sym (ind-yes (below-yes par j v q))))
          (λ q. ap (λ y. B i *ℤ (pos 1 -ℤ B j) *ℤ y) (through par K ok.up x i j v l (ok.top v l) p q ∙ ap (λ y. R i +ℤ y) (along-sym par K x (par v) j))))
          (λ p. ap (λ y. y *ℤ (pos 1 -ℤ B j) *ℤ along par K x i j) (ind-no (below-no par i v p)) ∙ by-ring (B j ∷ along par K x i j ∷ R i ∷ R j ∷ []) (search quote depth 20) tt
          ∙ ap (λ y. y *ℤ (pos 1 -ℤ B j) *ℤ (R i +ℤ R j)) (sym (ind-no (below-no par i v p))))

  -- a difference, set by set
  link_sub : (e r : ℕ → ℕ → ℤ) (f h : ℕ → ℤ) → link N (λ i j. e i j -ℤ r i j) f h ≡ link N e f h -ℤ link N r f h
  unfolding link
  link_sub e r f h =
      sum_cong N (λ i l. sum_cong N (λ j k. by-ring (f i ∷ h j ∷ e i j ∷ r i j ∷ []) (search quote depth 20) tt)
      ∙ sum-+ N (λ j. f i *ℤ h j *ℤ e i j) (λ j. neg_ℤ (f i *ℤ h j *ℤ r i j)) ∙ ap (λ y. sum N (λ j. f i *ℤ h j *ℤ e i j) +ℤ y) (sum_neg N (λ j. f i *ℤ h j *ℤ r i j)))
      ∙ sum-+ N (λ i. sum N (λ j. f i *ℤ h j *ℤ e i j)) (λ i. neg_ℤ (sum N (λ j. f i *ℤ h j *ℤ r i j)))
      ∙ ap (λ y. sum N (λ i. sum N (λ j. f i *ℤ h j *ℤ e i j)) +ℤ y) (sum_neg N (λ i. sum N (λ j. f i *ℤ h j *ℤ r i j)))

  module _ (d : ℕ × ℕ → ℤ) (D : ℤ) where
    -- the distances over D, both ways
    abbrev scaled : ℕ → ℕ → ℤ
    scaled = either (λ p. D *ℤ d p)

    -- the sum of remainders of an edge: between its two sides
    edge-sides : (v : ℕ) → v < K → edge_sum (pairs N) K (parts_pair par) d D x v
        ≡ link N scaled (bit par v) (λ j. pos 1 -ℤ bit par v j) -ℤ link N (along par K x) (bit par v) (λ j. pos 1 -ℤ bit par v j)
    edge-sides v l =
        pairs_cong N (λ p h k. ap₂ (λ y z. y *ℤ (z -ℤ path K (parts_pair par) x p)) (parts-ind par v p.0 p.1) (sym (either_lt (λ p. D *ℤ d p) p h)))
        ∙ pairs-cross N (bit par v) (λ i j. scaled i j -ℤ along par K x i j) (λ i. ind-sq (below par i v)) (λ i j. ap₂ ◌-ℤ◌ (either-sym (λ p. D *ℤ d p) i j) (along-sym par K x i j))
        ∙ link_sub scaled (along par K x) (bit par v) (λ j. pos 1 -ℤ bit par v j)

    module _ (g : Degree3 N K par) where
      -- the numerator x over D of each edge is the length by averages
      record Lengths : Type 0 where
        outer : (c : ℕ) → c < N → IsStar (pos 1) (sum N (bit par (g.other c))) (sum N (rest par c (g.other c))) (x c)
            (link N scaled (bit par c) (bit par (g.other c))) (link N scaled (bit par c) (rest par c (g.other c))) (link N scaled (bit par (g.other c)) (rest par c (g.other c)))
        inner : (c : ℕ) → N ≤ c → c < K → Edge N scaled (bit par (g.first c)) (bit par (g.second c)) (bit par (g.other c)) (rest par c (g.other c)) (x c)

      meet : Lengths → Equations (pairs N) K (parts_pair par) d D x
      meet t v l = edge-sides v l ∙ z_sub (distances ∙ sym here ∙ sym paths)
        where
          G : ℕ → ℤ
          G = bit par (g.other v)

          H : ℕ → ℤ
          H = rest par v (g.other v)

          out : Same N (λ j. pos 1 -ℤ bit par v j) (λ j. G j +ℤ H j)
          out j k = by-ring (bit par v j ∷ G j ∷ []) (search quote depth 20) tt

          directions : Three N scaled (along par K x) (bit par v) G H (par v)
          directions = star N K par ok g scaled (either-sym (λ p. D *ℤ d p)) x t.outer t.inner v l

          here : (sum N G +ℤ sum N H) *ℤ reach N (along par K x) (bit par v) (par v) +ℤ sum N (bit par v) *ℤ (reach N (along par K x) G (par v) +ℤ reach N (along par K x) H (par v))
              ≡ link N scaled (bit par v) G +ℤ link N scaled (bit par v) H
          here = three-meets N scaled (along par K x) (either-sym (λ p. D *ℤ d p)) (bit par v) G H (par v) (bit-pos N K par ok g (g.other v) (omega (arith, (other-is N K par ok g v l).edge))) (rest-pos N K par ok g v l) directions

          distances : link N scaled (bit par v) (λ j. pos 1 -ℤ bit par v j) ≡ link N scaled (bit par v) G +ℤ link N scaled (bit par v) H
          distances = link_cong N scaled (bit par v) (bit par v) (λ j. pos 1 -ℤ bit par v j) (λ j. G j +ℤ H j) (λ i k. refl) out
              ∙ link-∪ʳ N scaled (either-sym (λ p. D *ℤ d p)) (bit par v) G H

          paths : link N (along par K x) (bit par v) (λ j. pos 1 -ℤ bit par v j)
              ≡ (sum N G +ℤ sum N H) *ℤ reach N (along par K x) (bit par v) (par v) +ℤ sum N (bit par v) *ℤ (reach N (along par K x) G (par v) +ℤ reach N (along par K x) H (par v))
          paths = link-along v l ∙ ap₂ (λ y z. y *ℤ reach N (along par K x) (bit par v) (par v) +ℤ sum N (bit par v) *ℤ z)
              (sum_cong N out ∙ sum-+ N G H) (reach_cong N (along par K x) (λ j. pos 1 -ℤ bit par v j) (λ j. G j +ℤ H j) (par v) out ∙ reach-∪ N (along par K x) G H (par v))

-- ---- from the fractions
-- the distances over D are D times the distances
either-scale : (D : ℤ) (d : ℕ × ℕ → ℤ) (i j : ℕ) → either (λ p. D *ℤ d p) i j ≡ D *ℤ either d i j
either-scale D d i j = go (ltb i j)
  where
    go : (b : Bool) → cond b (D *ℤ d (i, j)) (D *ℤ d (j, i)) ≡ D *ℤ cond b (d (i, j)) (d (j, i))
    go true = refl
    go false = refl

link-scale : (N : ℕ) (D : ℤ) (d : ℕ × ℕ → ℤ) (f g : ℕ → ℤ) → link N (either (λ p. D *ℤ d p)) f g ≡ D *ℤ link N (either d) f g
unfolding link
link-scale N D d f g = sum_cong N (λ i l. sum_cong N (λ j k. ap (λ y. f i *ℤ g j *ℤ y) (either-scale D d i j)
    ∙ by-ring (f i ∷ g j ∷ D ∷ either d i j ∷ []) (search quote depth 20) tt) ∙ sum-* N D (λ j. f i *ℤ g j *ℤ either d i j))
    ∙ sum-* N D (λ i. sum N (λ j. f i *ℤ g j *ℤ either d i j))

-- the laws over D, from those of the distances: a strain's cluster has size i
star-over : (i a b n D p q r a' b' p' q' r' : ℤ) → i ≡ pos 1 → a' ≡ a → b' ≡ b → p' ≡ D *ℤ p → q' ≡ D *ℤ q → r' ≡ D *ℤ r
    → pos 2 *ℤ (i *ℤ (a *ℤ b)) *ℤ n ≡ D *ℤ star_of i a b p q r → IsStar (pos 1) a' b' n p' q' r'
star-over i a b n D p q r a' b' p' q' r' e ea eb ep eq er h = rw (ea, eb, ep, eq, er)
    (by-ring (a ∷ b ∷ n ∷ []) (search quote depth 20) tt ∙ ap (λ y. pos 2 *ℤ (y *ℤ (a *ℤ b)) *ℤ n) (sym e) ∙ h ∙ ap (λ y. D *ℤ star_of y a b p q r) e
    ∙ by-ring (D ∷ a ∷ b ∷ p ∷ q ∷ r ∷ []) (search quote depth 40) tt)

edge-over : (a b c d n D p q r s t u a' b' c' d' p' q' r' s' t' u' : ℤ) → a' ≡ a → b' ≡ b → c' ≡ c → d' ≡ d
    → p' ≡ D *ℤ p → q' ≡ D *ℤ q → r' ≡ D *ℤ r → s' ≡ D *ℤ s → t' ≡ D *ℤ t → u' ≡ D *ℤ u
    → pos 2 *ℤ (a *ℤ b *ℤ (c *ℤ d)) *ℤ ((a +ℤ b) *ℤ (c +ℤ d)) *ℤ n ≡ D *ℤ edge_of a b c d p q r s t u → IsEdge a' b' c' d' n p' q' r' s' t' u'
edge-over a b c d n D p q r s t u a' b' c' d' p' q' r' s' t' u' ea eb ec ed ep eq er es et eu h = rw (ea, eb, ec, ed, ep, eq, er, es, et, eu)
    (h ∙ by-ring (D ∷ a ∷ b ∷ c ∷ d ∷ p ∷ q ∷ r ∷ s ∷ t ∷ u ∷ []) (search quote depth 60 fits 9000) tt)

-- over any common denominator D the lengths meet the equations
pub equations : (N K : ℕ) (par : ℕ → ℕ) → Allowed N K par → Resolved N K par → (d : ℕ × ℕ → ℤ) (num : ℕ → ℤ) (den : ℕ → ℕ)
    → ((c : ℕ) → c < K → (num c *ℤ (edge_length N K par d c).bottom ≡ pos (den c) *ℤ (edge_length N K par d c).top) × (1 ≤ den c))
    → (D : ℤ) (n : ℕ → ℤ) → ((v : ℕ) → v < K → n v *ℤ pos (den v) ≡ D *ℤ num v)
    → Equations (pairs N) K (parts_pair par) d D n
unfolding degree3
equations N K par ok res d num den h D n same = meet N K par ok n d D (degree3 N K par ok res) (record { outer = out; inner = inn })
  where
    den_pos : (c : ℕ) → c < K → pos 0 <ᶻ pos (den c)
    den_pos c l = is-< (pos-≤ {m = 1} (h c l).1)

    -- the sums between two sets, over D
    clusters : (u v : ℕ) → link N (either (λ p. D *ℤ d p)) (bit par u) (bit par v) ≡ D *ℤ between N d (strains_below par u) (strains_below par v)
    clusters u v = link-scale N D d (bit par u) (bit par v) ∙ ap (λ y. D *ℤ y) (sym (between-clusters N d par u v))

    others : (c : ℕ) → c < K → (v : ℕ) → link N (either (λ p. D *ℤ d p)) (bit par v) (rest par c (sibling K par c)) ≡ D *ℤ between N d (strains_below par v) (neither par c (sibling K par c))
    others c l v = link-scale N D d (bit par v) (rest par c (sibling K par c)) ∙ ap (λ y. D *ℤ y) (sym (between-neither N K par ok res d c l v))

    out : (c : ℕ) → c < N → IsStar (pos 1) (sum N (bit par (sibling K par c))) (sum N (rest par c (sibling K par c))) (n c)
        (link N (either (λ p. D *ℤ d p)) (bit par c) (bit par (sibling K par c))) (link N (either (λ p. D *ℤ d p)) (bit par c) (rest par c (sibling K par c)))
        (link N (either (λ p. D *ℤ d p)) (bit par (sibling K par c)) (rest par c (sibling K par c)))
    out c k = let l : c < K = omega (arith, ok.edges) in let s = sibling K par c in
        let I = strains_below par c in let A = strains_below par s in let B = neither par c s in
        star-over (size N I) (size N A) (size N B) (n c) D (between N d I A) (between N d I B) (between N d A B)
        (sum N (bit par s)) (sum N (rest par c s))
        (link N (either (λ p. D *ℤ d p)) (bit par c) (bit par s)) (link N (either (λ p. D *ℤ d p)) (bit par c) (rest par c s)) (link N (either (λ p. D *ℤ d p)) (bit par s) (rest par c s))
        (own-one N K par ok res c k) (sym (size-cluster N par s)) (sym (size-rest N par K ok.up c s l (sibling-is N K par ok res c l)))
        (clusters c s) (others c l c) (others c l s)
        (value-common (pos 2 *ℤ (size N I *ℤ (size N A *ℤ size N B))) (num c) (pos (den c)) (n c) D (star_of (size N I) (size N A) (size N B) (between N d I A) (between N d I B) (between N d A B))
        (den_pos c l)
        (value_same (outer_at N K par d c) (star_of (size N I) (size N A) (size N B) (between N d I A) (between N d I B) (between N d A B)) (pos 2 *ℤ (size N I *ℤ (size N A *ℤ size N B)))
        (num c) (pos (den c))
        (outer-positive N d I A B (cluster-some N K par ok res c (omega arith)) (cluster-some N K par ok res s (omega (arith, (sibling-is N K par ok res c l).edge))) (neither-some N K par ok res c l))
        (outer-value N d I A B)
        (rw (lt-ltb c N k) at (h c l).0))
        (same c l))

    inn : (c : ℕ) → N ≤ c → c < K → Edge N (either (λ p. D *ℤ d p)) (bit par (child_of K par c 0)) (bit par (child_of K par c 1)) (bit par (sibling K par c)) (rest par c (sibling K par c)) (n c)
    inn c k l = let s = sibling K par c in let u = child_of K par c 0 in let v = child_of K par c 1 in
        let A = strains_below par u in let B = strains_below par v in let C = strains_below par s in let E = neither par c s in
        let L = link N (either (λ p. D *ℤ d p)) in
        edge-over (size N A) (size N B) (size N C) (size N E) (n c) D (between N d A B) (between N d A C) (between N d A E) (between N d B C) (between N d B E) (between N d C E)
        (sum N (bit par u)) (sum N (bit par v)) (sum N (bit par s)) (sum N (rest par c s))
        (L (bit par u) (bit par v)) (L (bit par u) (bit par s)) (L (bit par u) (rest par c s)) (L (bit par v) (bit par s)) (L (bit par v) (rest par c s)) (L (bit par s) (rest par c s))
        (sym (size-cluster N par u)) (sym (size-cluster N par v)) (sym (size-cluster N par s)) (sym (size-rest N par K ok.up c s l (sibling-is N K par ok res c l)))
        (clusters u v) (clusters u s) (others c l u) (clusters v s) (others c l v) (others c l s)
        (value-common (pos 2 *ℤ (size N A *ℤ size N B *ℤ (size N C *ℤ size N E)) *ℤ ((size N A +ℤ size N B) *ℤ (size N C +ℤ size N E))) (num c) (pos (den c)) (n c) D
        (edge_of (size N A) (size N B) (size N C) (size N E) (between N d A B) (between N d A C) (between N d A E) (between N d B C) (between N d B E) (between N d C E))
        (den_pos c l)
        (value_same (inner_at N K par d c)
        (edge_of (size N A) (size N B) (size N C) (size N E) (between N d A B) (between N d A C) (between N d A E) (between N d B C) (between N d B E) (between N d C E))
        (pos 2 *ℤ (size N A *ℤ size N B *ℤ (size N C *ℤ size N E)) *ℤ ((size N A +ℤ size N B) *ℤ (size N C +ℤ size N E)))
        (num c) (pos (den c))
        (inner-positive N d A B C E (cluster-some N K par ok res u (omega (arith, (child₀ N K par ok res c k (omega arith)).edge))) (cluster-some N K par ok res v (omega (arith, (child₁ N K par ok res c k (omega arith)).edge)))
        (cluster-some N K par ok res s (omega (arith, (sibling-is N K par ok res c l).edge))) (neither-some N K par ok res c l))
        (inner-value N d A B C E)
        (rw (le-ltb c N k) at (h c l).0))
        (same c l))
