-- The way from i to j: the edges above i that are not above j, as a climb from i meets them. Laws:
-- `way-split`: a path is the two ways; `way-stop`, `way_step`: what a climb from a adds until it stands above j.
-- A climb ends: each step goes to a greater vertex (`Up`), and the root is above every vertex (`below_root`).
use mathlib.Core.Path.{◌≡◌, refl, sym, ◌∙◌, ap, subst}
use mathlib.Core.Bool.{Bool, true, false, not, cond, ◌&&◌, and-false}
use mathlib.Core.List.{[], ◌∷◌}
use Prim.Native.Nat.{ℕ, ◌<◌}
use native.Mathlib.Decide.{ℕ_discrete}
use native.Mathlib.Omega.{arith}
use lib.Dec.{eqb}
use lib.IntN.{ℤ, pos, negsuc, ◌+ℤ◌, ◌-ℤ◌, ◌*ℤ◌, zero-*ℤ}
use Rattle.exact.proofs.Ring.{*ℤ-distribʳ}
use Rattle.exact.proofs.Quote.{by-ring, quote, eq_by, z*}
use Rattle.exact.proofs.Decide.{by_cases, eq_no}
use Rattle.exact.specs.Sum.{sum, ind}
use Rattle.exact.proofs.Sum.{sum_cong, sum-+, sum-at, sum-zero, ind-no}
use Rattle.exact.specs.LeastSquares.{path}
use Rattle.tree_theory.specs.Chain.{below, parts}
use Rattle.tree_theory.specs.Way.{only, way}
use Rattle.tree_theory.proofs.Chains.{Below, Up, bit, along, above, below?, below-yes, below-no, below_trans}

-- ---- one edge at a time
-- the edges of one way, as 0 and 1
only-ind : (p q : Bool) → ind (p && not q) ≡ ind p -ℤ ind p *ℤ ind q
unfolding ind
only-ind true true = refl
only-ind true false = refl
only-ind false true = refl
only-ind false false = refl

-- those of the path, from the two ways
split-ind : (p q : Bool) → ind (cond p (not q) q) ≡ ind (p && not q) +ℤ ind (q && not p)
unfolding ind
split-ind true true = refl
split-ind true false = refl
split-ind false true = refl
split-ind false false = refl

module _ (par : ℕ → ℕ) where
  -- a path, added way by way
  pub way-split : (K : ℕ) (x : ℕ → ℤ) (i j : ℕ) → along par K x i j ≡ way par K x i j +ℤ way par K x j i
  way-split K x i j = unfold path way parts in
      sum_cong K (λ v l. ap (λ y. y *ℤ x v) (split-ind (below par i v) (below par j v)) ∙ *ℤ-distribʳ (ind (only par i j v)) (ind (only par j i v)) (x v))
      ∙ sum-+ K (λ v. ind (only par i j v) *ℤ x v) (λ v. ind (only par j i v) *ℤ x v)

  -- v is off the way if it is above j whenever it is above i
  only_none : (i j v : ℕ) → (Below par i v → Below par j v) → only par i j v ≡ false
  only_none i j v h = by_cases (below? par i v)
      (λ e. rw (below-yes par j v (h e)) (and-false (below par i v)))
      (λ e. rw (below-no par i v e))

-- ---- climbing
module _ (par : ℕ → ℕ) (K : ℕ) (up : Up par K) where
  -- a climb ends where it stands above j: nothing is left to add
  pub way-stop : (x : ℕ → ℤ) (a j : ℕ) → Below par j a → way par K x a j ≡ pos 0
  unfolding way
  way-stop x a j h = sum_cong K (λ v l. ap (λ y. y *ℤ x v) (ind-no (only_none par a j v (below_trans par K up j a v (omega arith) h))) ∙ zero-*ℤ (x v)) ∙ sum-zero K

  -- a step at one edge
  way_at : (a j v : ℕ) → v < K → a < K → (Below par j a → ⊥) → ind (only par a j v) ≡ ind (eqb v a) +ℤ ind (only par (par a) j v)
  way_at a j v hv ha n = only-ind (below par a v) (below par j v) ∙ ap (λ y. y -ℤ y *ℤ Y) (above par K up v a hv ha)
      ∙ eq_by (z* (negsuc 0) none) (by-ring (E ∷ X ∷ Y ∷ []) (search quote depth 20) tt)
      ∙ ap (λ y. E +ℤ y) (sym (only-ind (below par (par a) v) (below par j v)))
    where
      E : ℤ
      E = ind (eqb v a)

      X : ℤ
      X = bit par v (par a)

      Y : ℤ
      Y = bit par v j

      none : E *ℤ Y ≡ pos 0
      none = by_cases (ℕ_discrete v a)
          (λ e. z* E (ind-no (below-no par j v (λ q. n (subst (Below par j) e q)))))
          (λ e. ap (λ y. y *ℤ Y) (ind-no (eq_no e)) ∙ zero-*ℤ Y)

  -- a climb that does not stand above j yet adds x a and goes to a's parent
  pub way_step : (x : ℕ → ℤ) (a j : ℕ) → a < K → (Below par j a → ⊥) → way par K x a j ≡ x a +ℤ way par K x (par a) j
  way_step x a j ha n = unfold way in
      sum_cong K (λ v hv. ap (λ y. y *ℤ x v) (way_at a j v hv ha n) ∙ *ℤ-distribʳ (ind (eqb v a)) (ind (only par (par a) j v)) (x v))
      ∙ sum-+ K (λ v. ind (eqb v a) *ℤ x v) (λ v. ind (only par (par a) j v) *ℤ x v)
      ∙ ap (λ y. y +ℤ sum K (λ v. ind (only par (par a) j v) *ℤ x v)) (sum-at K a x ha)
