-- The two sides of an edge. The idea: a path over an edge goes from a strain below it up to its lower end, and on from there to a strain that is
-- not below it. So the paths over the edge are the ways up, each once for every strain beyond, and the ways on, each once for every strain below.
-- `come-..`, `come-way-..`: what stands at a vertex when the turn of another comes; `out-root`, `out_step`: the paths from a vertex to all
-- strains, by those from its parent; `over`: the paths over an edge by the two sums at its lower end.
use mathlib.Core.Path.{◌≡◌, refl, sym, ap, ap₂, ◌∙◌}
use mathlib.Core.Bool.{not}
use mathlib.Core.List.{[], ◌∷◌}
use Prim.Native.Nat.{ℕ, suc, ◌≤◌, ◌<◌}
use native.Mathlib.Decide.{ℕ_discrete}
use native.Mathlib.Omega.{arith}
use lib.Dec.{eqb}
use lib.IntN.{ℤ, pos, ◌+ℤ◌, ◌-ℤ◌, ◌*ℤ◌, zero-*ℤ}
use Rattle.exact.specs.Sum.{sum, ind}
use Rattle.exact.proofs.Decide.{by_cases, eq_no}
use Rattle.exact.proofs.Quote.{by-ring, quote, eq_by, z_sub, z*}
use Rattle.exact.proofs.Ring.{*ℤ-oneˡ, *ℤ-oneʳ}
use Rattle.exact.proofs.Square.{square}
use Rattle.exact.proofs.Sum.{sum_cong, sum-+, sum-*, sum-*ʳ, sum-at, sum-zero, sum_const, pairs_cong, ind-yes, ind-no, ind_not, ind-sq}
use Rattle.tree_theory.specs.Chain.{below, lift, kid}
use Rattle.tree_theory.specs.Allowed.{Allowed}
use Rattle.tree_theory.proofs.Chains.{Below, bit, along, one_more, parts-ind, along-sym, along_self, below?, below-yes, below-no, below_self, below_root}
use Rattle.tree_theory.proofs.Directions.{through, edge-alone, onward}
use Rattle.path_sums.specs.Sums.{path_sum, crowd, ways_up, ways_out}

-- ---- up: how many stand at w when m's turn comes, and the paths from them to w
unfoldable pub come : ℕ → (ℕ → ℕ) → ℕ → ℕ → ℤ
come N par m w = sum N (λ i. ind (eqb (lift par m i) w))

unfoldable pub come_way : ℕ → ℕ → (ℕ → ℕ) → (ℕ → ℤ) → ℕ → ℕ → ℤ
come_way N K par x m w = sum N (λ i. ind (eqb (lift par m i) w) *ℤ along par K x i w)

module _ (N : ℕ) (par : ℕ → ℕ) where
  pub come-strain : (w : ℕ) → w < N → come N par 0 w ≡ pos 1
  unfolding come lift
  come-strain w h = sum_cong N (λ i _. sym (*ℤ-oneʳ (ind (eqb i w)))) ∙ sum-at N w (λ _. pos 1) h

  pub come-other : (w : ℕ) → N ≤ w → come N par 0 w ≡ pos 0
  unfolding come lift
  come-other w h = sum_cong N (λ i l. ind-no (eq_no {a = i} {b = w} (λ q. omega arith))) ∙ sum-zero N

  pub come-own : (m : ℕ) → come N par m m ≡ crowd N par m
  unfolding come crowd below
  come-own m = refl

  come-at : (m w i : ℕ) → m < w → ind (eqb (lift par (suc m) i) w) ≡ ind (eqb (lift par m i) w) +ℤ ind (kid par w m) *ℤ bit par m i
  unfolding lift below
  come-at m w i h = one_more par w i m (lift par m i) (omega arith)

  pub come-step : (m w : ℕ) → m < w → come N par (suc m) w ≡ come N par m w +ℤ ind (kid par w m) *ℤ crowd N par m
  come-step m w h = unfold come crowd in
      sum_cong N (λ i _. come-at m w i h)
      ∙ sum-+ N (λ i. ind (eqb (lift par m i) w)) (λ i. ind (kid par w m) *ℤ bit par m i)
      ∙ ap (λ y. sum N (λ i. ind (eqb (lift par m i) w)) +ℤ y) (sum-* N (ind (kid par w m)) (bit par m))

module _ (N K : ℕ) (par : ℕ → ℕ) (ok : Allowed N K par) (x : ℕ → ℤ) where
  pub come-way-start : (w : ℕ) → come_way N K par x 0 w ≡ pos 0
  unfolding come_way lift
  come-way-start w = sum_cong N (λ i _. by_cases (ℕ_discrete i w)
      (λ e. z* (ind (eqb i w)) (ap (λ u. along par K x u w) e ∙ along_self par K x w))
      (λ e. ap (λ y. y *ℤ along par K x i w) (ind-no (eq_no e)) ∙ zero-*ℤ (along par K x i w)))
      ∙ sum-zero N

  pub come-way-own : (m : ℕ) → come_way N K par x m m ≡ ways_up N K par x m
  unfolding come_way ways_up below
  come-way-own m = refl

  -- a strain that goes up over edge m comes a step further
  longer : (m w i : ℕ) → m < K → ind (kid par w m) *ℤ bit par m i *ℤ along par K x i w ≡ ind (kid par w m) *ℤ (bit par m i *ℤ along par K x i m +ℤ bit par m i *ℤ x m)
  longer m w i h = by_cases (ℕ_discrete (par m) w)
      (λ e. by_cases (below? par i m)
      (λ b. ap (λ y. ind (kid par w m) *ℤ bit par m i *ℤ y) (ap (λ u. along par K x i u) (sym e) ∙ onward par K ok.up x i m h b)
      ∙ by-ring (ind (kid par w m) ∷ bit par m i ∷ along par K x i m ∷ x m ∷ []) (search quote depth 20) tt)
      (λ b. off (ind (kid par w m)) (bit par m i) (along par K x i w) (along par K x i m) (x m) (ind-no (below-no par i m b))))
      (λ e. none (ind (kid par w m)) (bit par m i) (along par K x i w) (along par K x i m) (x m) (ind-no (eq_no e)))
    where
      off : (k b p q s : ℤ) → b ≡ pos 0 → k *ℤ b *ℤ p ≡ k *ℤ (b *ℤ q +ℤ b *ℤ s)
      off k b p q s e = eq_by (z* (k *ℤ p -ℤ k *ℤ q -ℤ k *ℤ s) e) (by-ring (k ∷ b ∷ p ∷ q ∷ s ∷ []) (search quote depth 20) tt)

      none : (k b p q s : ℤ) → k ≡ pos 0 → k *ℤ b *ℤ p ≡ k *ℤ (b *ℤ q +ℤ b *ℤ s)
      none k b p q s e = eq_by (z* (b *ℤ p -ℤ b *ℤ q -ℤ b *ℤ s) e) (by-ring (k ∷ b ∷ p ∷ q ∷ s ∷ []) (search quote depth 20) tt)

  pub come-way-step : (m w : ℕ) → m < w → m < K → come_way N K par x (suc m) w ≡ come_way N K par x m w +ℤ ind (kid par w m) *ℤ (ways_up N K par x m +ℤ crowd N par m *ℤ x m)
  come-way-step m w h k = unfold come_way ways_up crowd in
      sum_cong N (λ i _. ap (λ y. y *ℤ along par K x i w) (come-at N par m w i h)
      ∙ by-ring (ind (eqb (lift par m i) w) ∷ ind (kid par w m) ∷ bit par m i ∷ along par K x i w ∷ []) (search quote depth 20) tt
      ∙ ap (λ y. ind (eqb (lift par m i) w) *ℤ along par K x i w +ℤ y) (longer m w i k))
      ∙ sum-+ N (λ i. ind (eqb (lift par m i) w) *ℤ along par K x i w) (λ i. ind (kid par w m) *ℤ (bit par m i *ℤ along par K x i m +ℤ bit par m i *ℤ x m))
      ∙ ap (λ y. sum N (λ i. ind (eqb (lift par m i) w) *ℤ along par K x i w) +ℤ y)
      (sum-* N (ind (kid par w m)) (λ i. bit par m i *ℤ along par K x i m +ℤ bit par m i *ℤ x m)
      ∙ ap (λ y. ind (kid par w m) *ℤ y) (sum-+ N (λ i. bit par m i *ℤ along par K x i m) (λ i. bit par m i *ℤ x m)
      ∙ ap (λ y. sum N (λ i. bit par m i *ℤ along par K x i m) +ℤ y) (sum-*ʳ N (x m) (bit par m))))

  -- ---- down
  -- all strains are below the root
  pub out-root : ways_out N K par x K ≡ ways_up N K par x K
  unfolding ways_out ways_up
  out-root = sum_cong N (λ i l. along-sym par K x K i ∙ sym (*ℤ-oneˡ (along par K x i K))
      ∙ ap (λ y. y *ℤ along par K x i K) (sym (ind-yes (below-yes par i K (below_root par K ok.up ok.top i (omega (arith, ok.edges)))))))

  further : (w i : ℕ) → w < K → along par K x w i ≡ along par K x (par w) i +ℤ x w *ℤ (pos 1 -ℤ pos 2 *ℤ bit par w i)
  further w i h = by_cases (below? par i w)
      (λ b. below_case (along par K x w i) (along par K x (par w) i) (x w) (bit par w i) (ind-yes (below-yes par i w b))
      (along-sym par K x (par w) i ∙ onward par K ok.up x i w h b ∙ ap (λ y. y +ℤ x w) (along-sym par K x i w)))
      (λ b. beyond (along par K x w i) (along par K x (par w) i) (x w) (bit par w i) (ind-no (below-no par i w b))
      (through par K ok.up x w i w h (ok.top w h) (below_self par w) b ∙ ap (λ y. y +ℤ along par K x (par w) i) (edge-alone par K ok.up x w h)))
    where
      below_case : (p q s b : ℤ) → b ≡ pos 1 → q ≡ p +ℤ s → p ≡ q +ℤ s *ℤ (pos 1 -ℤ pos 2 *ℤ b)
      below_case p q s b e f = sym (ap₂ (λ u v. u +ℤ s *ℤ (pos 1 -ℤ pos 2 *ℤ v)) f e ∙ by-ring (p ∷ s ∷ []) (search quote depth 20) tt)

      beyond : (p q s b : ℤ) → b ≡ pos 0 → p ≡ s +ℤ q → p ≡ q +ℤ s *ℤ (pos 1 -ℤ pos 2 *ℤ b)
      beyond p q s b e f = f ∙ sym (ap (λ v. q +ℤ s *ℤ (pos 1 -ℤ pos 2 *ℤ v)) e ∙ by-ring (q ∷ s ∷ []) (search quote depth 20) tt)

  pub out_step : (w : ℕ) → w < K → ways_out N K par x w ≡ ways_out N K par x (par w) +ℤ x w *ℤ (pos N -ℤ pos 2 *ℤ crowd N par w)
  out_step w h = unfold ways_out crowd in
      sum_cong N (λ i _. further w i h)
      ∙ sum-+ N (λ i. along par K x (par w) i) (λ i. x w *ℤ (pos 1 -ℤ pos 2 *ℤ bit par w i))
      ∙ ap (λ y. sum N (λ i. along par K x (par w) i) +ℤ y)
      (sum-* N (x w) (λ i. pos 1 -ℤ pos 2 *ℤ bit par w i) ∙ ap (λ y. x w *ℤ y) signs)
    where
      signs : sum N (λ i. pos 1 -ℤ pos 2 *ℤ bit par w i) ≡ pos N -ℤ pos 2 *ℤ sum N (bit par w)
      signs = sum_cong N (λ i _. by-ring (bit par w i ∷ []) (search quote depth 20) tt)
          ∙ sum-+ N (λ i. pos 1) (λ i. (pos 0 -ℤ pos 2) *ℤ bit par w i)
          ∙ ap₂ ◌+ℤ◌ (sum_const N (pos 1) ∙ *ℤ-oneʳ (pos N)) (sum-* N (pos 0 -ℤ pos 2) (bit par w))
          ∙ by-ring (pos N ∷ sum N (bit par w) ∷ []) (search quote depth 20) tt

  -- ---- across
  module _ (v : ℕ) (h : v < K) where
    -- by way of v, from what is below it to what is not
    pub by_way : (y : ℕ → ℤ) (i j : ℕ) → Below par i v → (Below par j v → ⊥) → along par K y i j ≡ along par K y i v +ℤ along par K y v j
    by_way y i j b n = through par K ok.up y i j v h (ok.top v h) b n
        ∙ ap (λ z. z +ℤ along par K y (par v) j) (onward par K ok.up y i v h b)
        ∙ by-ring (along par K y i v ∷ y v ∷ along par K y (par v) j ∷ []) (search quote depth 20) tt
        ∙ ap (λ z. along par K y i v +ℤ z) (sym (through par K ok.up y v j v h (ok.top v h) (below_self par v) n ∙ ap (λ z. z +ℤ along par K y (par v) j) (edge-alone par K ok.up y v h)))

    -- 1 for a strain that is not below v
    abbrev pub off : ℕ → ℤ
    off i = ind (not (below par i v))

    -- the ways on from v
    abbrev pub on_ways : ℤ
    on_ways = sum N (λ i. off i *ℤ along par K x v i)

    off-is : (i : ℕ) → off i ≡ pos 1 -ℤ bit par v i
    off-is i = eq_by (z_sub (ind_not (below par i v))) (by-ring (bit par v i ∷ off i ∷ []) (search quote depth 20) tt)

    pub off-sum : sum N off ≡ pos N -ℤ crowd N par v
    off-sum = unfold crowd in
        sum_cong N (λ i _. off-is i ∙ by-ring (bit par v i ∷ []) (search quote depth 20) tt)
        ∙ sum-+ N (λ i. pos 1) (λ i. (pos 0 -ℤ pos 1) *ℤ bit par v i)
        ∙ ap₂ ◌+ℤ◌ (sum_const N (pos 1) ∙ *ℤ-oneʳ (pos N)) (sum-* N (pos 0 -ℤ pos 1) (bit par v))
        ∙ by-ring (pos N ∷ sum N (bit par v) ∷ []) (search quote depth 20) tt

    pub on-is : on_ways ≡ ways_out N K par x v -ℤ ways_up N K par x v
    on-is = unfold ways_out ways_up in
        sum_cong N (λ i _. ap₂ ◌*ℤ◌ (off-is i) (along-sym par K x v i) ∙ by-ring (bit par v i ∷ along par K x i v ∷ []) (search quote depth 20) tt
        ∙ ap (λ z. z +ℤ (pos 0 -ℤ pos 1) *ℤ (bit par v i *ℤ along par K x i v)) (along-sym par K x i v))
        ∙ sum-+ N (λ i. along par K x v i) (λ i. (pos 0 -ℤ pos 1) *ℤ (bit par v i *ℤ along par K x i v))
        ∙ ap (λ z. sum N (λ i. along par K x v i) +ℤ z) (sum-* N (pos 0 -ℤ pos 1) (λ i. bit par v i *ℤ along par K x i v))
        ∙ by-ring (sum N (λ i. along par K x v i) ∷ sum N (λ i. bit par v i *ℤ along par K x i v) ∷ []) (search quote depth 20) tt

    -- the paths from strain j to those that are not below v
    pub across-from : (j : ℕ) → bit par v j *ℤ sum N (λ i. off i *ℤ along par K x i j) ≡ (pos N -ℤ crowd N par v) *ℤ (bit par v j *ℤ along par K x j v) +ℤ on_ways *ℤ bit par v j
    across-from j = by_cases (below? par j v)
        (λ b. ap (λ y. bit par v j *ℤ y) (inside b) ∙ by-ring (bit par v j ∷ (pos N -ℤ crowd N par v) ∷ along par K x j v ∷ on_ways ∷ []) (search quote depth 20) tt)
        (λ b. outside (bit par v j) (sum N (λ i. off i *ℤ along par K x i j)) (pos N -ℤ crowd N par v) (along par K x j v) on_ways (ind-no (below-no par j v b)))
      where
        outside : (b s c p q : ℤ) → b ≡ pos 0 → b *ℤ s ≡ c *ℤ (b *ℤ p) +ℤ q *ℤ b
        outside b s c p q e = eq_by (z* (s -ℤ c *ℤ p -ℤ q) e) (by-ring (b ∷ s ∷ c ∷ p ∷ q ∷ []) (search quote depth 20) tt)

        apart : Below par j v → (i : ℕ) → off i *ℤ along par K x i j ≡ off i *ℤ along par K x j v +ℤ off i *ℤ along par K x v i
        apart b i = by_cases (below? par i v)
            (λ a. gone (off i) (along par K x i j) (along par K x j v) (along par K x v i) (ind-no (ap not (below-yes par i v a))))
            (λ a. ap (λ y. off i *ℤ y) (along-sym par K x i j ∙ by_way x j i b a) ∙ by-ring (off i ∷ along par K x j v ∷ along par K x v i ∷ []) (search quote depth 20) tt)
          where
            gone : (o p q r : ℤ) → o ≡ pos 0 → o *ℤ p ≡ o *ℤ q +ℤ o *ℤ r
            gone o p q r e = eq_by (z* (p -ℤ q -ℤ r) e) (by-ring (o ∷ p ∷ q ∷ r ∷ []) (search quote depth 20) tt)

        inside : Below par j v → sum N (λ i. off i *ℤ along par K x i j) ≡ (pos N -ℤ crowd N par v) *ℤ along par K x j v +ℤ on_ways
        inside b = sum_cong N (λ i _. apart b i)
            ∙ sum-+ N (λ i. off i *ℤ along par K x j v) (λ i. off i *ℤ along par K x v i)
            ∙ ap (λ y. y +ℤ on_ways) (sum-*ʳ N (along par K x j v) off ∙ ap (λ y. y *ℤ along par K x j v) off-sum)

    -- the pairs that v parts, each from the strain below it to the other
    pub pairs-off : path_sum N K par x v ≡ sum N (λ j. bit par v j *ℤ sum N (λ i. off i *ℤ along par K x i j))
    pairs-off = pairs_cong N (λ p _ _. ap (λ y. y *ℤ along par K x p.0 p.1) (parts-ind par v p.0 p.1 ∙ turn p.0 p.1))
        ∙ sym (square (bit par v) off (along par K x) none (along-sym par K x) N)
      where
        turn : (i j : ℕ) → bit par v i +ℤ bit par v j -ℤ pos 2 *ℤ (bit par v i *ℤ bit par v j) ≡ bit par v i *ℤ off j +ℤ off i *ℤ bit par v j
        turn i j = by-ring (bit par v i ∷ bit par v j ∷ []) (search quote depth 20) tt
            ∙ ap₂ (λ y z. bit par v i *ℤ y +ℤ z *ℤ bit par v j) (sym (off-is j)) (sym (off-is i))

        none : (i : ℕ) → bit par v i *ℤ off i ≡ pos 0
        none i = ap (λ y. bit par v i *ℤ y) (off-is i) ∙ eq_by (z* (pos 0 -ℤ pos 1) (z_sub (ind-sq (below par i v)))) (by-ring (bit par v i ∷ []) (search quote depth 20) tt)

    pub over : path_sum N K par x v ≡ (pos N -ℤ crowd N par v) *ℤ ways_up N K par x v +ℤ crowd N par v *ℤ (ways_out N K par x v -ℤ ways_up N K par x v)
    over = pairs-off
        ∙ sum_cong N (λ j _. across-from j)
        ∙ sum-+ N (λ j. (pos N -ℤ crowd N par v) *ℤ (bit par v j *ℤ along par K x j v)) (λ j. on_ways *ℤ bit par v j)
        ∙ ap₂ ◌+ℤ◌ (sum-* N (pos N -ℤ crowd N par v) (λ j. bit par v j *ℤ along par K x j v) ∙ ap (λ y. (pos N -ℤ crowd N par v) *ℤ y) up_is)
        (sum-* N on_ways (bit par v) ∙ ap₂ ◌*ℤ◌ on-is crowd-is
        ∙ by-ring (crowd N par v ∷ ways_out N K par x v ∷ ways_up N K par x v ∷ []) (search quote depth 20) tt)
      where
        up_is : sum N (λ j. bit par v j *ℤ along par K x j v) ≡ ways_up N K par x v
        up_is = unfold ways_up in refl

        crowd-is : sum N (bit par v) ≡ crowd N par v
        crowd-is = unfold crowd in refl
