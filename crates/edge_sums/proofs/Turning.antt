-- Where the path of a pair turns. The idea: when vertex v's turn comes, i stands at v and j at v's parent. Up to v no vertex is above
-- both, and behind v a vertex is above both or above neither, as it is above the parent. So the path is the two ways up to here.
use mathlib.Core.Path.{◌≡◌, refl, sym, ap, ap₂, ◌∙◌}
use mathlib.Core.Bool.{Bool, true, false, ◌&&◌, and-false}
use mathlib.Core.List.{[], ◌∷◌}
use Prim.Native.Nat.{ℕ, suc, ◌≤◌, ◌<◌}
use native.Mathlib.Decide.{ℕ_discrete, dec_lt}
use native.Mathlib.Omega.{arith}
use lib.Dec.{eqb}
use lib.IntN.{ℤ, pos, ◌+ℤ◌, ◌-ℤ◌, ◌*ℤ◌, zero-*ℤ}
use Rattle.exact.specs.Sum.{sum, pairs, ind}
use Rattle.exact.specs.LeastSquares.{path}
use Rattle.exact.proofs.Decide.{by_cases, eq_yes, eq_no, eqb-sym}
use Rattle.exact.proofs.Quote.{by-ring, quote}
use Rattle.exact.proofs.Sum.{sum-suc, sum_cong, sum-cut, sum-+, ind-and, ind-no}
use Rattle.tree_theory.specs.Chain.{pass, lift, below, parts}
use Rattle.tree_theory.proofs.Chains.{Below, Up, bit, along, below?, below-no, below_step, not_below, lift-lift, parts-ind}
use Rattle.edge_sums.specs.Meets.{Meets}

-- what parts i and j, by where they meet
pub parts_meet : (par : ℕ → ℕ) (K i j m : ℕ) → Meets K par i j m → (v : ℕ) → v < K
    → ind (parts par v i j) ≡ bit par v i +ℤ bit par v j -ℤ pos 2 *ℤ bit par v m
parts_meet par K i j m w v l = parts-ind par v i j
    ∙ ap (λ y. bit par v i +ℤ bit par v j -ℤ pos 2 *ℤ y) (sym (ap ind (w.common v (omega arith)) ∙ ind-and (below par i v) (below par j v)))

-- the way of i over the vertices below v
unfoldable pub climbed : (ℕ → ℕ) → (ℕ → ℤ) → ℕ → ℕ → ℤ
climbed par x v i = sum v (λ u. bit par u i *ℤ x u)

pub climbed-none : (par : ℕ → ℕ) (x : ℕ → ℤ) (i : ℕ) → climbed par x 0 i ≡ pos 0
unfolding climbed sum
climbed-none par x i = refl

pub climbed-more : (par : ℕ → ℕ) (x : ℕ → ℤ) (v i : ℕ) → climbed par x (suc v) i ≡ climbed par x v i +ℤ bit par v i *ℤ x v
unfolding climbed
climbed-more par x v i = sum-suc v (λ u. bit par u i *ℤ x u)

module _ (par : ℕ → ℕ) (K : ℕ) (up : Up par K) (v i j : ℕ) (edge : v < K) (top : par v ≤ K) (at : Below par i v) (there : lift par v j ≡ par v) where
  abbrev m : ℕ
  m = par v

  -- behind v both stand where v's parent stands
  first-behind : (u : ℕ) → v < u → u ≤ K → below par i u ≡ below par m u
  unfolding below
  first-behind u l k = ap (λ (x : ℕ). eqb x u) (sym (lift-lift par K up v u i (omega arith) k) ∙ ap (lift par u) at ∙ below_step par K up v u l k)

  second-behind : (u : ℕ) → v < u → u ≤ K → below par j u ≡ below par m u
  unfolding below
  second-behind u l k = ap (λ (x : ℕ). eqb x u) (sym (lift-lift par K up v u j (omega arith) k) ∙ ap (lift par u) there)

  -- up to v nothing is above both
  none_above : (u : ℕ) → u ≤ v → below par m u ≡ false
  none_above u l = below-no par m u (not_below par K up m u (omega (arith, up v edge)))

  not_both : (u : ℕ) → u ≤ v → Below par i u → Below par j u → ⊥
  not_both u l a b =
      let e = sym at ∙ sym (lift-lift par K up u v i l (omega arith)) ∙ ap (lift par v) a in
      let f = sym there ∙ sym (lift-lift par K up u v j l (omega arith)) ∙ ap (lift par v) b in
      omega (arith, up v edge, e, f)

  pub turns : Meets K par i j m
  turns = record {
    on = top;
    common = λ u k. by_cases (dec_lt v u)
        (λ l. rw (first-behind u l k, second-behind u l k) (same (below par m u)))
        (λ l. none_above u (omega arith) ∙ by_cases (below? par i u)
        (λ a. rw (below-no par j u (not_both u (omega arith) a)) (sym (and-false (below par i u))))
        (λ a. rw (below-no par i u a)));
  }
    where
      same : (b : Bool) → b ≡ (b && b)
      same true = refl
      same false = refl

  pub path-turns : (x : ℕ → ℤ) → along par K x i j ≡ climbed par x (suc v) i +ℤ climbed par x (suc v) j
  path-turns x = unfold path climbed in
      sum-cut K (suc v) (λ u. ind (parts par u i j) *ℤ x u) edge (λ u l k. ap (λ y. y *ℤ x u) (behind u l k) ∙ zero-*ℤ (x u))
      ∙ sum_cong (suc v) (λ u l. ap (λ y. y *ℤ x u) (before u (omega arith)) ∙ by-ring (bit par u i ∷ bit par u j ∷ x u ∷ []) (search quote depth 20) tt)
      ∙ sum-+ (suc v) (λ u. bit par u i *ℤ x u) (λ u. bit par u j *ℤ x u)
    where
      behind : (u : ℕ) → suc v ≤ u → u < K → ind (parts par u i j) ≡ pos 0
      behind u l k = parts_meet par K i j m turns u k
          ∙ ap₂ (λ a b. ind a +ℤ ind b -ℤ pos 2 *ℤ bit par u m) (first-behind u l (omega arith)) (second-behind u l (omega arith))
          ∙ by-ring (bit par u m ∷ []) (search quote depth 20) tt

      before : (u : ℕ) → u ≤ v → ind (parts par u i j) ≡ bit par u i +ℤ bit par u j
      before u l = parts_meet par K i j m turns u (omega arith)
          ∙ ap (λ y. bit par u i +ℤ bit par u j -ℤ pos 2 *ℤ y) (ind-no (none_above u l))
          ∙ by-ring (bit par u i ∷ bit par u j ∷ []) (search quote depth 20) tt

-- ---- which pairs have met
-- two that stand at a and b: together behind v's turn, if together before it, or if one is at v and the other at its parent
one-turn : (par : ℕ → ℕ) (v a b : ℕ) → v < par v → ind (eqb (pass par v a) (pass par v b))
    ≡ ind (eqb a b) +ℤ (ind (eqb a v) *ℤ ind (eqb b (par v)) +ℤ ind (eqb a (par v)) *ℤ ind (eqb b v))
unfolding ind
one-turn par v a b h = by_cases (ℕ_discrete a v)
    (λ e. by_cases (ℕ_discrete b v)
    (λ f. rw (e, f, eq_yes {a = v} {b = v} refl, eq_yes {a = par v} {b = par v} refl, eq_no {a = v} {b = par v} (omega arith)) refl)
    (λ f. rw (e, eq_no f, eq_yes {a = v} {b = v} refl, eq_no {a = v} {b = b} (omega arith), eq_no {a = v} {b = par v} (omega arith), eqb-sym (par v) b) (one (eqb b (par v)))))
    (λ e. by_cases (ℕ_discrete b v)
    (λ f. rw (f, eq_no e, eq_yes {a = v} {b = v} refl, eq_no {a = v} {b = par v} (omega arith)) (two (eqb a (par v))))
    (λ f. rw (eq_no e, eq_no f) (none (eqb a b) (ind (eqb b (par v))) (ind (eqb a (par v))))))
  where
    one : (c : Bool) → ind c ≡ pos 0 +ℤ (pos 1 *ℤ ind c +ℤ pos 0 *ℤ pos 0)
    one true = refl
    one false = refl

    two : (c : Bool) → ind c ≡ pos 0 +ℤ (pos 0 *ℤ pos 0 +ℤ ind c *ℤ pos 1)
    two true = refl
    two false = refl

    none : (c : Bool) (y z : ℤ) → ind c ≡ ind c +ℤ (pos 0 *ℤ y +ℤ z *ℤ pos 0)
    none c y z = by-ring (ind c ∷ y ∷ z ∷ []) (search quote depth 20) tt

-- the two strains of a pair stand at one vertex when v's turn comes
abbrev pub together : (ℕ → ℕ) → ℕ → ℕ × ℕ → Bool
together par v p = eqb (lift par v p.0) (lift par v p.1)

-- i stands at w when v's turn comes
abbrev pub stands : (ℕ → ℕ) → ℕ → ℕ → ℕ → ℤ
stands par v w i = ind (eqb (lift par v i) w)

pub together-more : (par : ℕ → ℕ) (v : ℕ) → v < par v → (p : ℕ × ℕ) → ind (together par (suc v) p)
    ≡ ind (together par v p) +ℤ (stands par v v p.0 *ℤ stands par v (par v) p.1 +ℤ stands par v (par v) p.0 *ℤ stands par v v p.1)
unfolding lift
together-more par v h p = one-turn par v (lift par v p.0) (lift par v p.1) h
