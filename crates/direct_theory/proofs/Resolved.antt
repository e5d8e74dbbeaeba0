-- The lengths of RULES, Resolved trees meet the law of three directions at every vertex of a resolved tree. From the
-- strains up to the root the law of each edge's lower side is that of its children's (`down`); at the root all three
-- directions are then known; and from the root back to the strains the law of an edge's upper side is that of the other
-- two directions at its parent (`up_step`).
-- `star`: so at each edge's upper end the law holds in all three directions.
use mathlib.Core.Path.{◌≡◌, refl, sym, ◌∙◌, ap, ap₂, subst}
use mathlib.Core.Logic.{◌⊎◌, inl, inr}
use mathlib.Core.List.{[], ◌∷◌}
use Prim.Native.Nat.{ℕ, zero, suc, ◌+◌, ◌≤◌, ◌<◌}
use native.Mathlib.Decide.{ℕ_discrete, dec_lt}
use native.Mathlib.Omega.{arith}
use lib.Dec.{eqb}
use lib.IntN.{ℤ, pos, negsuc, ◌+ℤ◌, ◌-ℤ◌, ◌*ℤ◌}
use Rattle.exact.proofs.Quote.{by-ring, quote, eq_by, z_sub, z*}
use Rattle.exact.proofs.Decide.{by_cases}
use Rattle.exact.specs.Sum.{sum, ind}
use Rattle.exact.proofs.Sum.{sum_cong, sum-+, sum-*ʳ, sum-at, ind-sq}
use Rattle.exact.specs.LeastSquares.{path}
use Rattle.tree_theory.specs.Chain.{below, parts}
use Rattle.tree_theory.specs.Allowed.{Allowed}
use Rattle.tree_theory.proofs.Chains.{Up, bit, along, along_self, above, parts-ind}
use Rattle.direct_theory.proofs.Children.{Degree3, other-is}
use Rattle.direct_theory.proofs.Quartet.{IsStar}
use Rattle.direct_theory.proofs.Star.{Same, link, reach, Star, Edge, Three, star_cong, star_swap, three-12, three-23, three_cong, over, edge-flip}
use Rattle.direct_theory.proofs.Sets.{rest, rest_swap, beyond, two-kids, three-kids, other-of-first, other-of-later, bit-pos, rest-pos, own, own-size, N≤K}

-- ---- paths over one edge
module _ (par : ℕ → ℕ) (K : ℕ) (up : Up par K) (x : ℕ → ℤ) where
  -- the path to the lower end of an edge from that to its upper end: longer by the edge, or shorter from below it
  along-edge : (i c : ℕ) → c < K → along par K x i c ≡ along par K x i (par c) +ℤ (pos 1 -ℤ pos 2 *ℤ bit par c i) *ℤ x c
  along-edge i c h = (unfold path in
      sum_cong K (λ v l. ap (λ y. y *ℤ x v) (parts-ind par v i c ∙ ap (λ y. bit par v i +ℤ y -ℤ pos 2 *ℤ (bit par v i *ℤ y)) (above par K up v c l h))
      ∙ by-ring (bit par v i ∷ bit par v (par c) ∷ ind (eqb v c) ∷ x v ∷ []) (search quote depth 20) tt
      ∙ ap (λ y. y *ℤ x v +ℤ ind (eqb v c) *ℤ ((pos 1 -ℤ pos 2 *ℤ bit par v i) *ℤ x v)) (sym (parts-ind par v i (par c))))
      ∙ sum-+ K (λ v. ind (parts par v i (par c)) *ℤ x v) (λ v. ind (eqb v c) *ℤ ((pos 1 -ℤ pos 2 *ℤ bit par v i) *ℤ x v))
      ∙ ap (λ y. sum K (λ v. ind (parts par v i (par c)) *ℤ x v) +ℤ y) (sum-at K c (λ v. (pos 1 -ℤ pos 2 *ℤ bit par v i) *ℤ x v) h))

  module _ (N : ℕ) where
    -- the paths from the strains below an edge to its upper end, by those to its lower end
    reach_in : (c : ℕ) → c < K → reach N (along par K x) (bit par c) (par c) ≡ sum N (bit par c) *ℤ x c +ℤ reach N (along par K x) (bit par c) c
    reach_in c h = unfold reach in
        sum_cong N (λ i l. sym (ap (λ y. bit par c i *ℤ x c +ℤ bit par c i *ℤ y) (along-edge i c h) ∙ one (bit par c i) (x c) (along par K x i (par c)) (ind-sq (below par i c))))
        ∙ sum-+ N (λ i. bit par c i *ℤ x c) (λ i. bit par c i *ℤ along par K x i c)
        ∙ ap (λ y. y +ℤ sum N (λ i. bit par c i *ℤ along par K x i c)) (sum-*ʳ N (x c) (bit par c))
      where
        one : (b x a : ℤ) → b *ℤ b ≡ b → b *ℤ x +ℤ b *ℤ (a +ℤ (pos 1 -ℤ pos 2 *ℤ b) *ℤ x) ≡ b *ℤ a
        one b x a e = eq_by (z* (negsuc 1 *ℤ x) (z_sub e)) (by-ring (b ∷ x ∷ a ∷ []) (search quote depth 20) tt)

    -- the paths from all others to its lower end, by those to its upper end
    reach-out : (c : ℕ) (X : ℕ → ℤ) → c < K → Same N (λ i. pos 1 -ℤ bit par c i) X → reach N (along par K x) X c ≡ sum N X *ℤ x c +ℤ reach N (along par K x) X (par c)
    reach-out c X h s = unfold reach in
        sum_cong N (λ i l. ap₂ ◌*ℤ◌ (sym (s i l)) (along-edge i c h)
        ∙ one (bit par c i) (x c) (along par K x i (par c)) (ind-sq (below par i c))
        ∙ ap (λ y. y *ℤ x c +ℤ y *ℤ along par K x i (par c)) (s i l))
        ∙ sum-+ N (λ i. X i *ℤ x c) (λ i. X i *ℤ along par K x i (par c))
        ∙ ap (λ y. y +ℤ sum N (λ i. X i *ℤ along par K x i (par c))) (sum-*ʳ N (x c) X)
      where
        one : (b x a : ℤ) → b *ℤ b ≡ b → (pos 1 -ℤ b) *ℤ (a +ℤ (pos 1 -ℤ pos 2 *ℤ b) *ℤ x) ≡ (pos 1 -ℤ b) *ℤ x +ℤ (pos 1 -ℤ b) *ℤ a
        one b x a e = eq_by (z* (pos 2 *ℤ x) (z_sub e)) (by-ring (b ∷ x ∷ a ∷ []) (search quote depth 20) tt)

module _ (N K : ℕ) (par : ℕ → ℕ) (ok : Allowed N K par) (g : Degree3 N K par) where
  open g use {first, second, third}

  -- ---- the lengths
  module _ (e : ℕ → ℕ → ℤ) (e-sym : (i j : ℕ) → e i j ≡ e j i) (x : ℕ → ℤ)
      (outer : (c : ℕ) → c < N → IsStar (pos 1) (sum N (bit par (g.other c))) (sum N (rest par c (g.other c))) (x c)
      (link N e (bit par c) (bit par (g.other c))) (link N e (bit par c) (rest par c (g.other c))) (link N e (bit par (g.other c)) (rest par c (g.other c))))
      (inner : (c : ℕ) → N ≤ c → c < K → Edge N e (bit par (first c)) (bit par (second c)) (bit par (g.other c)) (rest par c (g.other c)) (x c)) where
    -- paths with lengths x
    abbrev r : ℕ → ℕ → ℤ
    r = along par K x

    -- the law from the strains below c to c's parent
    E : ℕ → Type 0
    E c = Star N e r (bit par c) (bit par (g.other c)) (rest par c (g.other c)) (par c)

    -- the law in all three directions at w
    All : ℕ → Type 0
    All w = Three N e r (bit par (first w)) (bit par (second w)) (rest par (first w) (second w)) w

    -- a strain's own edge: the path to its parent is the edge's length, which is the one by averages
    own-zero : (c : ℕ) → c < N → reach N r (bit par c) c ≡ pos 0
    unfolding reach
    own-zero c h = sum_cong N (λ i l. ap (λ y. y *ℤ along par K x i c) (own N K par ok g c i h)) ∙ sum-at N c (λ i. along par K x i c) h ∙ along_self par K x c

    own-reach : (c : ℕ) → c < N → reach N r (bit par c) (par c) ≡ x c
    own-reach c h = reach_in par K ok.up x N c (omega (arith, N≤K N K par ok g))
        ∙ ap₂ (λ y z. y *ℤ x c +ℤ z) (own-size N K par ok g c h) (own-zero c h)
        ∙ by-ring (x c ∷ []) (search quote depth 20) tt

    leaf-edge : (c : ℕ) → c < N → E c
    unfolding E
    leaf-edge c h = rw (own-size N K par ok g c h, own-reach c h) (outer c h)

    -- the law from the first child, the second, and the root's third, by the sets at their parent
    star-first : (w : ℕ) → N ≤ w → w ≤ K → E (first w) → Star N e r (bit par (first w)) (bit par (second w)) (rest par (first w) (second w)) w
    unfolding E
    star-first w h k s = rw (other-of-first N K par ok g w h k, g.under₁ w h k) at s

    star-second : (w : ℕ) → N ≤ w → w ≤ K → E (second w) → Star N e r (bit par (second w)) (bit par (first w)) (rest par (first w) (second w)) w
    unfolding E
    star-second w h k s = star_cong N e r (bit par (second w)) (bit par (second w)) (bit par (first w)) (bit par (first w)) (rest par (second w) (first w)) (rest par (first w) (second w)) w
        (λ i l. refl) (λ i l. refl) (λ i l. rest_swap par (second w) (first w) i)
        (rw (other-of-later N K par ok g w (second w) (g.under₂ w h k) (λ q. g.apart₁₂ w h k (sym q)), g.under₂ w h k) at s)

    star-third : E third → Star N e r (rest par (first K) (second K)) (bit par (first K)) (bit par (second K)) K
    unfolding E
    star-third s = star_cong N e r (bit par third) (rest par (first K) (second K)) (bit par (first K)) (bit par (first K)) (rest par third (first K)) (bit par (second K)) K
        (λ i l. eq_by (z_sub (sym (three-kids N K par ok g i l))) (by-ring (bit par (first K) i ∷ bit par (second K) i ∷ bit par third i ∷ []) (search quote depth 20) tt))
        (λ i l. refl)
        (λ i l. eq_by (z_sub (three-kids N K par ok g i l)) (by-ring (bit par (first K) i ∷ bit par (second K) i ∷ bit par third i ∷ []) (search quote depth 20) tt))
        (rw (other-of-later N K par ok g K third g.under₃ (λ q. g.apart₁₃ (sym q)), g.under₃) at s)

    -- ---- down: from the strains to the root
    down_step : (c : ℕ) → N ≤ c → c < K → E (first c) → E (second c) → E c
    unfolding E
    down_step c h k a b = over N e r e-sym (bit par (first c)) (bit par (second c)) (bit par (g.other c)) (rest par c (g.other c)) (bit par c) (rest par (first c) (second c)) c (par c) (x c)
        (λ i l. sym (two-kids N K par ok g c i l h k)) (λ i l. beyond N K par ok g c i l h k)
        (bit-pos N K par ok g (first c) (omega (arith, g.edge₁ c h (omega arith)))) (bit-pos N K par ok g (second c) (omega (arith, g.edge₂ c h (omega arith)))) (bit-pos N K par ok g (g.other c) (omega (arith, (other-is N K par ok g c k).edge))) (rest-pos N K par ok g c k)
        (reach_in par K ok.up x N c k) (star-first c h (omega arith) a) (star-second c h (omega arith) b) (inner c h k)

    down_to : (n c : ℕ) → c < n → c < K → E c
    down_to zero c l k = absurd (omega arith)
    down_to (suc n) c l k = by_cases (dec_lt c N)
        (λ h. leaf-edge c h)
        (λ h. let h' : N ≤ c = omega arith in let k' : c ≤ K = omega arith in down_step c h' k
        (down_to n (first c) (omega (arith, ok.up (first c) (g.edge₁ c h' k'), g.under₁ c h' k')) (g.edge₁ c h' k'))
        (down_to n (second c) (omega (arith, ok.up (second c) (g.edge₂ c h' k'), g.under₂ c h' k')) (g.edge₂ c h' k')))

    down : (c : ℕ) → c < K → E c
    down c k = down_to (suc c) c (omega arith) k

    -- ---- up: from the root to the strains
    at-root : All K
    unfolding All
    at-root = record { from₁ = star-first K (N≤K N K par ok g) (omega arith) (down (first K) (g.edge₁ K (N≤K N K par ok g) (omega arith))); from₂ = star-second K (N≤K N K par ok g) (omega arith) (down (second K) (g.edge₂ K (N≤K N K par ok g) (omega arith))); from₃ = star-third (down third g.edge₃) }

    -- the three directions at c's parent, c's own N K par ok g star-first
    abbrev pub Around : ℕ → Type 0
    Around c = Three N e r (bit par c) (bit par (g.other c)) (rest par c (g.other c)) (par c)

    around-1 : (w : ℕ) → N ≤ w → w ≤ K → All w → Around (first w)
    unfolding All
    around-1 w h k t = rw (other-of-first N K par ok g w h k, g.under₁ w h k) t

    around-2 : (w : ℕ) → N ≤ w → w ≤ K → All w → Around (second w)
    unfolding All
    around-2 w h k t = rw (other-of-later N K par ok g w (second w) (g.under₂ w h k) (λ q. g.apart₁₂ w h k (sym q)), g.under₂ w h k)
        (three_cong N e r e-sym (bit par (second w)) (bit par (second w)) (bit par (first w)) (bit par (first w)) (rest par (first w) (second w)) (rest par (second w) (first w)) w
        (λ i l. refl) (λ i l. refl) (λ i l. rest_swap par (first w) (second w) i) (three-12 N e r e-sym (bit par (first w)) (bit par (second w)) (rest par (first w) (second w)) w t))

    around-3 : All K → Around third
    unfolding All
    around-3 t = rw (other-of-later N K par ok g K third g.under₃ (λ q. g.apart₁₃ (sym q)), g.under₃)
        (three_cong N e r e-sym (rest par (first K) (second K)) (bit par third) (bit par (first K)) (bit par (first K)) (bit par (second K)) (rest par third (first K)) K
        (λ i l. eq_by (z_sub (three-kids N K par ok g i l)) (by-ring (bit par (first K) i ∷ bit par (second K) i ∷ bit par third i ∷ []) (search quote depth 20) tt))
        (λ i l. refl)
        (λ i l. eq_by (z_sub (sym (three-kids N K par ok g i l))) (by-ring (bit par (first K) i ∷ bit par (second K) i ∷ bit par third i ∷ []) (search quote depth 20) tt))
        (three-12 N e r e-sym (bit par (first K)) (rest par (first K) (second K)) (bit par (second K)) K (three-23 N e r e-sym (bit par (first K)) (bit par (second K)) (rest par (first K) (second K)) K t)))

    around : (c : ℕ) → c < K → All (par c) → Around c
    around c l t = by_cases (ℕ_discrete (par c) K)
        (λ q. root (g.only-root c l q) (subst All q t))
        (λ q. mid (g.only c l (omega (arith, ok.top c l))))
      where
        root : (c ≡ first K) ⊎ ((c ≡ second K) ⊎ (c ≡ third)) → All K → Around c
        root (inl s) t = subst Around (sym s) (around-1 K (N≤K N K par ok g) (omega arith) t)
        root (inr (inl s)) t = subst Around (sym s) (around-2 K (N≤K N K par ok g) (omega arith) t)
        root (inr (inr s)) t = subst Around (sym s) (around-3 t)

        mid : (c ≡ first (par c)) ⊎ (c ≡ second (par c)) → Around c
        mid (inl s) = subst Around (sym s) (around-1 (par c) (ok.inner c l) (ok.top c l) t)
        mid (inr s) = subst Around (sym s) (around-2 (par c) (ok.inner c l) (ok.top c l) t)

    -- from the three directions at c's parent to what is beyond c at c
    up_step : (c : ℕ) → N ≤ c → c < K → Around c → Star N e r (rest par (first c) (second c)) (bit par (first c)) (bit par (second c)) c
    up_step c h k t = over N e r e-sym (bit par (g.other c)) (rest par c (g.other c)) (bit par (first c)) (bit par (second c)) (rest par (first c) (second c)) (bit par c) (par c) c (x c)
        (λ i l. beyond N K par ok g c i l h k) (λ i l. sym (two-kids N K par ok g c i l h k))
        (bit-pos N K par ok g (g.other c) (omega (arith, (other-is N K par ok g c k).edge))) (rest-pos N K par ok g c k) (bit-pos N K par ok g (first c) (omega (arith, g.edge₁ c h (omega arith)))) (bit-pos N K par ok g (second c) (omega (arith, g.edge₂ c h (omega arith))))
        (reach-out par K ok.up x N c (rest par (first c) (second c)) k (λ i l. eq_by (z* (negsuc 0) (z_sub (two-kids N K par ok g c i l h k))) (by-ring (bit par c i ∷ bit par (first c) i ∷ bit par (second c) i ∷ []) (search quote depth 20) tt)))
        (star_swap N e r e-sym (bit par (g.other c)) (bit par c) (rest par c (g.other c)) (par c) t.from₂)
        (star_swap N e r e-sym (rest par c (g.other c)) (bit par c) (bit par (g.other c)) (par c) t.from₃)
        (edge-flip N e r e-sym (bit par (first c)) (bit par (second c)) (bit par (g.other c)) (rest par c (g.other c)) (x c) (inner c h k))

    -- at most n steps below the root
    all-to : (n w : ℕ) → K ≤ w + n → N ≤ w → w ≤ K → All w
    unfolding All
    all-to zero w m h k = let q : w ≡ K = omega arith in subst All (sym q) at-root
    all-to (suc n) w m h k = let ih : w < K → All (par w) = λ l. all-to n (par w) (omega (arith, ok.up w l)) (ok.inner w l) (ok.top w l) in
        by_cases (ℕ_discrete w K)
        (λ q. subst All (sym q) at-root)
        (λ q. let l : w < K = omega arith in record {
          from₁ = star-first w h k (down (first w) (g.edge₁ w h k));
          from₂ = star-second w h k (down (second w) (g.edge₂ w h k));
          from₃ = up_step w h l (around w l (ih l));
        })

    -- the law in all three directions at every edge's upper end
    pub star : (c : ℕ) → c < K → Around c
    star c l = around c l (all-to K (par c) (omega arith) (ok.inner c l) (ok.top c l))
