-- Chains of a tree by its parents: vertex v < K hangs under `par v`, and K is the root. `Below par i v`: v is on i's chain,
-- where `lift par w i` is the first vertex at or above w on the chain i, par i, par (par i), .. Laws:
-- from the test to `Below` and back: `below-yes`, `below-no`, `below-is`, `below_true`, `below?`;
-- how `lift` climbs: `up_at`, `up-off`, `stay`, `lift-par`, `lift_ge`, `lift-le`, `lift-lift`;
-- the order of vertices: `below-le`, `not_below`, `below_self`, `below_trans`, `below-par`, `below_up`, `below_step`,
-- `above-par`, `below_root`; what shares a vertex is nested: `nested`, `laminar`;
-- `below` is the chain: `below_chain`, `chain-below`; proof by following it: `chain`;
-- masks that are handed from child to parent: `seen_start`, `seen_up`, `seen-off`, `seen_done`;
-- what parts a pair, as 0 and 1: `parts-ind`, `parts-sym`, `parts_self`;
-- a cluster as the sum of its children's: `one_more`, `kids-to`, `children`, `partition`;
-- paths, and climbing along them: `along-sym`, `along_self`, `above`, `climb`, `along-climb`, `along_climbʳ`.
use mathlib.Core.Path.{◌≡◌, refl, sym, ◌∙◌, ap, ap₂, subst}
use mathlib.Core.Bool.{Bool, true, false, not, ◌||◌, cond}
use mathlib.Core.Logic.{◌≢◌, ◌⊎◌, inl, inr}
use mathlib.Core.List.{[], ◌∷◌}
use Prim.Native.Nat.{ℕ, zero, suc, ◌≤◌, ◌<◌}
use native.Mathlib.Decide.{ℕ_discrete, dec_le, dec_lt}
use native.Mathlib.Omega.{arith}
use lib.Dec.{T, eqb, eqb→eq}
use lib.IntN.{ℤ, pos, ◌+ℤ◌, ◌-ℤ◌, ◌*ℤ◌, +ℤ_idl, +ℤ_idr, *ℤ-zero, zero-*ℤ}
use Rattle.exact.proofs.Ring.{*ℤ-oneʳ, *ℤ-distribʳ}
use Rattle.exact.proofs.Quote.{by-ring, quote}
use Rattle.exact.proofs.Decide.{by_cases, eq_yes, eq_no, eqb-sym}
use Rattle.exact.specs.Sum.{sum, ind}
use Rattle.exact.proofs.Sum.{sum_cong, sum-cut, sum-+, sum-at, sum-zero, ind-no, ind_xor}
use Rattle.tree_theory.specs.Chain.{Chain, here, next, pass, lift, below, parts, parts_pair, kid}
use Rattle.exact.specs.LeastSquares.{path}

-- v is on i's chain
abbrev pub Below : (ℕ → ℕ) → ℕ → ℕ → Type 0
Below par i v = lift par v i ≡ v

-- ---- the chain climbs
module _ (par : ℕ → ℕ) where
  pub below-yes : (i v : ℕ) → Below par i v → below par i v ≡ true
  unfolding below
  below-yes i v e = eq_yes e

  pub below-no : (i v : ℕ) → (Below par i v → ⊥) → below par i v ≡ false
  unfolding below
  below-no i v h = eq_no h

  pub below-is : (i v : ℕ) → T (below par i v) → Below par i v
  unfolding below
  below-is i v t = eqb→eq (lift par v i) v t

  pub below_true : (i v : ℕ) → below par i v ≡ true → Below par i v
  below_true i v e = below-is i v (subst T (sym e) tt)

  pub below? : (i v : ℕ) → Dec (Below par i v)
  below? i v = ℕ_discrete (lift par v i) v

  pub up_at : (w i : ℕ) → lift par w i ≡ w → lift par (suc w) i ≡ par w
  unfolding lift
  up_at w i e = rw (e, eq_yes {a = w} {b = w} refl)

  pub up-off : (w i : ℕ) → lift par w i ≢ w → lift par (suc w) i ≡ lift par w i
  unfolding lift
  up-off w i e = rw (eq_no e)

  pub stay : (w i : ℕ) → w ≤ i → lift par w i ≡ i
  unfolding lift
  stay zero i h = refl
  stay (suc w) i h = let e = stay w i (omega arith) in rw (e, eq_no {a = i} {b = w} (omega arith))

  -- below i v and v < i never hold together
  pub below-le : (i v : ℕ) → Below par i v → i ≤ v
  below-le i v h = by_cases (dec_le i v) (λ l. l) (λ l. omega (arith, stay v i (omega arith)))

  pub below_self : (v : ℕ) → Below par v v
  below_self v = stay v v (omega arith)

  -- the vertices above a are a and those above its parent
  pub lift-par : (a : ℕ) → lift par (suc a) a ≡ par a
  lift-par a = up_at a a (below_self a)

abbrev pub Up : (ℕ → ℕ) → ℕ → Type 0
Up par K = (u : ℕ) → u < K → u < par u

module _ (par : ℕ → ℕ) (K : ℕ) (up : Up par K) where
  pub lift_ge : (w i : ℕ) → w ≤ K → w ≤ lift par w i
  lift_ge zero i h = omega arith
  lift_ge (suc w) i h = let ih = lift_ge w i (omega arith) in by_cases (below? par i w)
      (λ e. omega (arith, up_at par w i e, up w (omega arith)))
      (λ e. omega (arith, up-off par w i e))

  pub lift-lift : (v w i : ℕ) → v ≤ w → w ≤ K → lift par w (lift par v i) ≡ lift par w i
  unfolding lift
  lift-lift v zero i h k = let e : v ≡ 0 = omega arith in rw e
  lift-lift v (suc w) i h k = let ih : v ≤ w → lift par w (lift par v i) ≡ lift par w i = λ l. lift-lift v w i l (omega arith) in
      by_cases (ℕ_discrete v (suc w))
      (λ e. rw e (stay par (suc w) (lift par (suc w) i) (lift_ge (suc w) i k)))
      (λ e. rw (ih (omega arith)))

  pub below_trans : (i v w : ℕ) → w ≤ K → Below par i v → Below par v w → Below par i w
  below_trans i v w k e f = sym (lift-lift v w i (below-le par v w f) k) ∙ ap (lift par w) e ∙ f

  -- two that share a vertex are nested
  pub nested : (i v w : ℕ) → v ≤ w → w ≤ K → Below par i v → Below par i w → Below par v w
  nested i v w h k e f = sym (ap (lift par w) e) ∙ lift-lift v w i h k ∙ f

  pub laminar : (i v w : ℕ) → v ≤ K → w ≤ K → Below par i v → Below par i w → Below par v w ⊎ Below par w v
  laminar i v w hv hw e f = by_cases (dec_le v w) (λ l. inl (nested i v w l hw e f)) (λ l. inr (nested i w v (omega arith) hv f e))

  -- one step: above a are a itself and what is above its parent
  pub below_step : (a v : ℕ) → a < v → v ≤ K → lift par v a ≡ lift par v (par a)
  below_step a v h k = sym (lift-lift (suc a) v a h k) ∙ ap (lift par v) (lift-par par a)

  -- what is above c and is not c is above its parent
  pub above-par : (c v : ℕ) → v ≤ K → Below par c v → c ≢ v → Below par (par c) v
  above-par c v k e n = sym (below_step c v (omega (arith, below-le par c v e)) k) ∙ e

  pub not_below : (a v : ℕ) → v < a → Below par a v → ⊥
  not_below a v h e = omega (arith, below-le par a v e)

  pub below-par : (a : ℕ) → a < K → par a ≤ K → Below par a (par a)
  below-par a h k = below_step a (par a) (up a h) k ∙ below_self par (par a)

  -- what is below a child is below its parent
  pub below_up : (i u w : ℕ) → u < K → w ≤ K → par u ≡ w → Below par i u → Below par i w
  below_up i u w h k e b = below_trans i u w k b (subst (Below par u) e (below-par u h (omega arith)))

  module _ (top : (u : ℕ) → u < K → par u ≤ K) where
    pub lift-le : (w i : ℕ) → w ≤ K → i ≤ K → lift par w i ≤ K
    unfolding lift
    lift-le zero i h k = k
    lift-le (suc w) i h k = let ih = lift-le w i (omega arith) k in by_cases (below? par i w)
        (λ e. omega (arith, up_at par w i e, top w (omega arith)))
        (λ e. omega (arith, up-off par w i e))

    pub below_root : (i : ℕ) → i ≤ K → Below par i K
    below_root i h = omega (arith, lift-le K i (omega arith) h, lift_ge K i (omega arith))

-- ---- `below` is the chain i, par i, par (par i), .. up to the root K
-- what holds at i and is handed on from each vertex above i to its parent holds at every vertex above i
module _ (par : ℕ → ℕ) (K i : ℕ) (P : ℕ → Type 0) (base : P i) (next : (a : ℕ) → a < K → Below par i a → P a → P (par a)) where
  chain-to : (w : ℕ) → w ≤ K → P (lift par w i)
  unfolding lift
  chain-to zero h = base
  chain-to (suc w) h = let ih = chain-to w (omega arith) in by_cases (below? par i w)
      (λ e. subst P (sym (up_at par w i e)) (next w h e (subst P e ih)))
      (λ e. subst P (sym (up-off par w i e)) ih)

  pub chain : (a : ℕ) → a ≤ K → Below par i a → P a
  chain a h e = subst P e (chain-to a h)

pub below_chain : (par : ℕ → ℕ) (K i a : ℕ) → a ≤ K → Below par i a → Chain par K i a
below_chain par K i = chain par K i (Chain par K i) here (λ a h e p. next h p)

pub chain-below : (par : ℕ → ℕ) (K : ℕ) → Up par K → ((u : ℕ) → u < K → par u ≤ K) → (i : ℕ) {a : ℕ} → Chain par K i a → Below par i a
chain-below par K up top i here = below_self par i
chain-below par K up top i (next {a} h p) = below_trans par K up i a (par a) (top a h) (chain-below par K up top i p) (below-par par K up a h (top a h))

-- ---- masks: `seen m i w` is bit i of w's mask when the vertices below m have handed theirs to their parents
abbrev pub seen : (ℕ → ℕ) → ℕ → ℕ → ℕ → Bool
seen par m i w = eqb (lift par m i) w

module _ (par : ℕ → ℕ) where
  pub seen_start : (i w : ℕ) → seen par 0 i w ≡ eqb i w
  unfolding lift
  seen_start i w = refl

  pub seen_up : (m i : ℕ) → m < par m → seen par (suc m) i (par m) ≡ (seen par m i (par m) || below par i m)
  unfolding below
  seen_up m i h = by_cases (below? par i m)
      (λ e. rw (up_at par m i e, e, eq_no {a = m} {b = par m} (omega arith), eq_yes {a = par m} {b = par m} refl, eq_yes {a = m} {b = m} refl))
      (λ e. rw (up-off par m i e, eq_no e) (or_no (eqb (lift par m i) (par m))))
    where
      or_no : (b : Bool) → b ≡ (b || false)
      or_no true = refl
      or_no false = refl

  pub seen-off : (m i w : ℕ) → m < w → par m ≢ w → seen par (suc m) i w ≡ seen par m i w
  seen-off m i w h n = by_cases (below? par i m)
      (λ e. rw (up_at par m i e, e, eq_no {a = m} {b = w} (omega arith), eq_no n))
      (λ e. rw (up-off par m i e))

  pub seen_done : (i w : ℕ) → seen par w i w ≡ below par i w
  unfolding below
  seen_done i w = refl

-- ---- 0 and 1
abbrev pub bit : (ℕ → ℕ) → ℕ → ℕ → ℤ
bit par v i = ind (below par i v)

module _ (par : ℕ → ℕ) where
  pub parts-ind : (v i j : ℕ) → ind (parts par v i j) ≡ bit par v i +ℤ bit par v j -ℤ pos 2 *ℤ (bit par v i *ℤ bit par v j)
  unfolding parts
  parts-ind v i j = ind_xor (below par i v) (below par j v)

  pub parts-sym : (v i j : ℕ) → ind (parts par v i j) ≡ ind (parts par v j i)
  parts-sym v i j = parts-ind v i j ∙ by-ring (bit par v i ∷ bit par v j ∷ []) (search quote depth 20) tt ∙ sym (parts-ind v j i)

  pub parts_self : (v i : ℕ) → ind (parts par v i i) ≡ pos 0
  unfolding parts
  parts_self v i = go (below par i v)
    where
      go : (b : Bool) → ind (cond b (not b) b) ≡ pos 0
      go true = unfold ind in refl
      go false = unfold ind in refl

-- ---- children
module _ (par : ℕ → ℕ) (w i : ℕ) where
  pub one_more : (m j : ℕ) → m ≢ w → ind (eqb (pass par m j) w) ≡ ind (eqb j w) +ℤ ind (kid par w m) *ℤ ind (eqb j m)
  unfolding ind
  one_more m j h = by_cases (ℕ_discrete j m)
      (λ e. rw (eq_yes e, e, eq_no h) (sym (+ℤ_idl (ind (kid par w m) *ℤ pos 1) ∙ *ℤ-oneʳ (ind (kid par w m)))))
      (λ e. rw (eq_no e) (sym (ap (λ x. ind (eqb j w) +ℤ x) (*ℤ-zero (ind (kid par w m))) ∙ +ℤ_idr (ind (eqb j w)))))

  pub kids-to : (m : ℕ) → m ≤ w → ind (eqb (lift par m i) w) ≡ ind (eqb i w) +ℤ sum m (λ u. ind (kid par w u) *ℤ bit par u i)
  unfolding sum lift below
  kids-to zero h = sym (+ℤ_idr (ind (eqb i w)))
  kids-to (suc m) h = one_more m (lift par m i) (omega arith)
      ∙ ap (λ x. x +ℤ ind (kid par w m) *ℤ bit par m i) (kids-to m (omega arith))
      ∙ by-ring (ind (eqb i w) ∷ sum m (λ u. ind (kid par w u) *ℤ bit par u i) ∷ ind (kid par w m) ∷ bit par m i ∷ []) (search quote depth 20) tt

module _ (par : ℕ → ℕ) (K : ℕ) (up : Up par K) where
  -- below w are w itself and what is below its children
  pub children : (w i : ℕ) → w ≤ K → bit par w i ≡ ind (eqb i w) +ℤ sum K (λ u. ind (kid par w u) *ℤ bit par u i)
  children w i h = unfold below in kids-to par w i w (omega arith)
      ∙ ap (λ x. ind (eqb i w) +ℤ x) (sym (sum-cut K w (λ u. ind (kid par w u) *ℤ bit par u i) h
      (λ u a b. ap (λ x. x *ℤ bit par u i) (ind-no (eq_no {a = par u} {b = w} (omega (arith, up u b)))) ∙ zero-*ℤ (bit par u i))))

  pub partition : (w i : ℕ) → w ≤ K → i ≢ w → bit par w i ≡ sum K (λ u. ind (kid par w u) *ℤ bit par u i)
  partition w i h e = children w i h ∙ ap (λ x. x +ℤ sum K (λ u. ind (kid par w u) *ℤ bit par u i)) (ind-no (eq_no e)) ∙ +ℤ_idl (sum K (λ u. ind (kid par w u) *ℤ bit par u i))

-- ---- paths between vertices
-- the path between two vertices, not strains only: a climb takes one edge off it
abbrev pub along : (ℕ → ℕ) → ℕ → (ℕ → ℤ) → ℕ → ℕ → ℤ
along par K x i j = path K (parts_pair par) x (i, j)

module _ (par : ℕ → ℕ) (K : ℕ) where
  pub along-sym : (x : ℕ → ℤ) (a b : ℕ) → along par K x a b ≡ along par K x b a
  unfolding path
  along-sym x a b = sum_cong K (λ v l. ap (λ y. y *ℤ x v) (parts-sym par v a b))

  pub along_self : (x : ℕ → ℤ) (a : ℕ) → along par K x a a ≡ pos 0
  unfolding path
  along_self x a = sum_cong K (λ v l. ap (λ y. y *ℤ x v) (parts_self par v a) ∙ zero-*ℤ (x v)) ∙ sum-zero K

module _ (par : ℕ → ℕ) (K : ℕ) (up : Up par K) where
  higher : (v a : ℕ) → a < v → v < K → below par a v ≡ below par (par a) v
  unfolding below
  higher v a l hv = ap (λ x. eqb x v) (below_step par K up a v l (omega arith))

  lower : (v a : ℕ) → v ≤ a → below par a v ≡ eqb v a
  unfolding below
  lower v a l = ap (λ x. eqb x v) (stay par v a l) ∙ eqb-sym a v

  -- above a are a itself and what is above its parent
  pub above : (v a : ℕ) → v < K → a < K → bit par v a ≡ ind (eqb v a) +ℤ bit par v (par a)
  above v a hv ha = by_cases (dec_lt a v)
      (λ l. sym (+ℤ_idl (bit par v a)) ∙ ap₂ ◌+ℤ◌ (sym (ind-no (eq_no {a = v} {b = a} (omega arith)))) (ap ind (higher v a l hv)))
      (λ l. ap ind (lower v a (omega arith)) ∙ sym (+ℤ_idr (ind (eqb v a)))
      ∙ ap (λ x. ind (eqb v a) +ℤ x) (sym (ind-no (below-no par (par a) v (not_below par K up (par a) v (omega (arith, up a ha)))))))

  pub climb : (v a b : ℕ) → v < K → a < K → a < b → ind (parts par v a b) ≡ ind (eqb v a) +ℤ ind (parts par v (par a) b)
  climb v a b hv ha l = parts-ind par v a b ∙ ap (λ x. x +ℤ Y -ℤ pos 2 *ℤ (x *ℤ Y)) (above v a hv ha)
      ∙ by-ring (E ∷ X ∷ Y ∷ []) (search quote depth 20) tt
      ∙ ap₂ (λ p q. E +ℤ p -ℤ pos 2 *ℤ q) (sym (parts-ind par v (par a) b)) none
      ∙ by-ring (E ∷ ind (parts par v (par a) b) ∷ []) (search quote depth 20) tt
    where
      E : ℤ
      E = ind (eqb v a)

      X : ℤ
      X = bit par v (par a)

      Y : ℤ
      Y = bit par v b

      none : E *ℤ Y ≡ pos 0
      none = by_cases (ℕ_discrete v a)
          (λ e. ap (λ y. E *ℤ y) (ind-no (below-no par b v (not_below par K up b v (omega arith)))) ∙ *ℤ-zero E)
          (λ e. ap (λ y. y *ℤ Y) (ind-no (eq_no e)) ∙ zero-*ℤ Y)

  -- the loop that climbs from the lower of the two
  pub along-climb : (x : ℕ → ℤ) (a b : ℕ) → a < K → a < b → along par K x a b ≡ x a +ℤ along par K x (par a) b
  along-climb x a b ha l = unfold path in
      sum_cong K (λ v hv. ap (λ y. y *ℤ x v) (climb v a b hv ha l) ∙ *ℤ-distribʳ (ind (eqb v a)) (ind (parts par v (par a) b)) (x v))
      ∙ sum-+ K (λ v. ind (eqb v a) *ℤ x v) (λ v. ind (parts par v (par a) b) *ℤ x v)
      ∙ ap (λ y. y +ℤ sum K (λ v. ind (parts par v (par a) b) *ℤ x v))
      (sum-at K a x ha)

  pub along_climbʳ : (x : ℕ → ℤ) (a b : ℕ) → b < K → b < a → along par K x a b ≡ x b +ℤ along par K x a (par b)
  along_climbʳ x a b hb l = along-sym par K x a b ∙ along-climb x b a hb l ∙ ap (λ y. x b +ℤ y) (along-sym par K x (par b) a)
