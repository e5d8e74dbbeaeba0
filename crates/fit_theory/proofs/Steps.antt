-- Split sums by the paper's equations. The idea: below an inner vertex is what is below its children, each strain below one of them; so of a
-- pair below two different children each child's edge parts it and the vertex's does not, and all other pairs count alike on both sides.
use mathlib.Core.Path.{◌≡◌, refl, sym, ◌∙◌, ap, ap₂}
use mathlib.Core.Bool.{Bool, true, false, not, ◌&&◌}
use mathlib.Core.List.{List, [], ◌∷◌}
use mathlib.Core.Logic.{◌≢◌}
use Prim.Native.Nat.{ℕ, ◌≤◌, ◌<◌}
use native.Mathlib.Omega.{arith}
use lib.Dec.{eqb}
use lib.IntN.{ℤ, pos, negsuc, ◌+ℤ◌, ◌-ℤ◌, ◌*ℤ◌, +ℤ_idr, zero-*ℤ, *ℤ-zero}
use lib.ListN.{length, get_or}
use Rattle.exact.specs.Sum.{sum, pairs, ind, Sums}
use Rattle.exact.proofs.Decide.{eq_yes, eq_no}
use Rattle.exact.proofs.Quote.{by-ring, quote}
use Rattle.exact.proofs.Ring.{*ℤ-oneˡ}
use Rattle.exact.proofs.Sum.{sum_cong, sum-+, sum-*, sum-*ʳ, sum_one, sum-at, sum-zero, pairs_cong, pairs-sums, S-swap, ind-sq, ind-yes, ind-no}
use Rattle.matrix.specs.Place.{place, is_measured, known, distance, distance_of}
use Rattle.tree_theory.specs.Allowed.{Allowed}
use Rattle.tree_theory.specs.Chain.{parent_of, kid, parts, parts_pair}
use Rattle.tree_theory.proofs.Chains.{Up, bit, parts-ind, children, partition}
use Rattle.matrix.proofs.Looking.{known-none}
use Rattle.matrix.proofs.Places.{pair-place-up, pair-place-sym}
use Rattle.exact.proofs.Square.{square}
use Rattle.fit_theory.specs.Quantities.{parts_of, split_sum}
use Rattle.fit_theory.proofs.Complete.{and_true}
use Rattle.fit_theory.specs.Steps.{row_sum, across, SplitSteps}

-- ---- equation 9
-- a number is or is not i
either : (b : Bool) → ind (not b) ≡ pos 1 -ℤ ind b
unfolding ind
either true = refl
either false = refl

never : (b : Bool) → ind b *ℤ ind (not b) ≡ pos 0
unfolding ind
never true = refl
never false = refl

-- below a strain is the strain alone
alone : (N K : ℕ) (par : ℕ → ℕ) → Allowed N K par → (i a : ℕ) → i < N → bit par i a ≡ ind (eqb a i)
alone N K par w i a h = children par K w.up i a (omega (arith, w.edges))
    ∙ ap (λ y. ind (eqb a i) +ℤ y) (sum_cong K (λ u l. ap (λ y. y *ℤ bit par u a) (ind-no (eq_no {a = par u} {b = i} (omega (arith, w.inner u l)))) ∙ zero-*ℤ (bit par u a)) ∙ sum-zero K)
    ∙ +ℤ_idr (ind (eqb a i))

-- a pair that is not measured adds nothing to a sum of distances, so a split sum may run over all pairs that the edge parts
pub all-parted : (N : ℕ) (ds ps : List ℕ) (v : ℕ) → split_sum N ds ps v ≡ pairs N (λ p. ind (parts_of ps v p) *ℤ distance ds p)
all-parted N ds ps v = pairs_cong N (λ p _ _. at (parts_of ps v p) (get_or ds (place p.0 p.1) 0) (is_measured (get_or ds (place p.0 p.1) 0)) refl)
  where
    at : (b : Bool) (x : ℕ) (m : Bool) → is_measured x ≡ m → ind (b && is_measured x) *ℤ pos (known x) ≡ ind b *ℤ pos (known x)
    at b x true e = ap (λ (c : Bool). ind (b && c) *ℤ pos (known x)) e ∙ ap (λ (c : Bool). ind c *ℤ pos (known x)) (and_true b)
    at b x false e = ap (λ (k : ℕ). ind (b && is_measured x) *ℤ pos k) (known-none x e) ∙ *ℤ-zero (ind (b && is_measured x)) ∙ sym (ap (λ (k : ℕ). ind b *ℤ pos k) (known-none x e) ∙ *ℤ-zero (ind b))

module _ (N : ℕ) (ds ps : List ℕ) (w : Allowed N (length ps) (parent_of ps)) (i : ℕ) (h : i < N) where
  at-strain : (p : ℕ × ℕ) → ind (parts (parent_of ps) i p.0 p.1) ≡ ind (eqb p.0 i) *ℤ ind (not (eqb p.1 i)) +ℤ ind (not (eqb p.0 i)) *ℤ ind (eqb p.1 i)
  at-strain p = parts-ind (parent_of ps) i p.0 p.1
      ∙ ap₂ (λ x y. x +ℤ y -ℤ pos 2 *ℤ (x *ℤ y)) (alone N (length ps) (parent_of ps) w i p.0 h) (alone N (length ps) (parent_of ps) w i p.1 h)
      ∙ by-ring (ind (eqb p.0 i) ∷ ind (eqb p.1 i) ∷ []) (search quote depth 20) tt
      ∙ sym (ap₂ (λ x y. ind (eqb p.0 i) *ℤ x +ℤ y *ℤ ind (eqb p.1 i)) (either (eqb p.1 i)) (either (eqb p.0 i)))

  row : split_sum N ds ps i ≡ row_sum N ds i
  row = unfold row_sum in
      all-parted N ds ps i
      ∙ pairs_cong N (λ p l _. ap₂ ◌*ℤ◌ (at-strain p) (ap (λ (k : ℕ). pos (known (get_or ds k 0))) (sym (pair-place-up p.0 p.1 l))))
      ∙ sym (square (λ j. ind (eqb j i)) (λ j. ind (not (eqb j i))) (λ a b. distance_of ds a b) (λ j. never (eqb j i)) (λ a b. ap (λ (k : ℕ). pos (known (get_or ds k 0))) (pair-place-sym a b)) N)
      ∙ sum-at N i (λ j. sum N (λ k. ind (not (eqb k i)) *ℤ distance_of ds k j)) h

-- ---- equation 14
-- two sums multiplied, without the terms of one place in both
sum_prod : (n : ℕ) (f g : ℕ → ℤ) → sum n f *ℤ sum n g ≡ sum n (λ u. sum n (λ v. f u *ℤ g v))
sum_prod n f g = sym (sum-*ʳ n (sum n g) f) ∙ sum_cong n (λ u l. sym (sum-* n (f u) g))

sum_diag : (n : ℕ) (f g : ℕ → ℤ) → sum n (λ u. sum n (λ v. ind (eqb u v) *ℤ (f u *ℤ g v))) ≡ sum n (λ u. f u *ℤ g u)
sum_diag n f g = sum_cong n (λ u l.
    sum_one n u (λ v. ind (eqb u v) *ℤ (f u *ℤ g v)) l (λ v k e. ap (λ y. y *ℤ (f u *ℤ g v)) (ind-no (eq_no {a = u} {b = v} (omega arith))) ∙ zero-*ℤ (f u *ℤ g v))
    ∙ ap (λ y. y *ℤ (f u *ℤ g u)) (ind-yes (eq_yes {a = u} {b = u} refl)) ∙ *ℤ-oneˡ (f u *ℤ g u))

sum-off : (n : ℕ) (f g : ℕ → ℤ) → sum n (λ u. sum n (λ v. ind (not (eqb u v)) *ℤ (f u *ℤ g v))) ≡ sum n f *ℤ sum n g -ℤ sum n (λ u. f u *ℤ g u)
sum-off n f g =
    sum_cong n (λ u l. sum_cong n (λ v k. off (eqb u v) (f u *ℤ g v)) ∙ sum-+ n (λ v. f u *ℤ g v) (λ v. negsuc 0 *ℤ (ind (eqb u v) *ℤ (f u *ℤ g v))) ∙ ap (λ y. sum n (λ v. f u *ℤ g v) +ℤ y) (sum-* n (negsuc 0) (λ v. ind (eqb u v) *ℤ (f u *ℤ g v))))
    ∙ sum-+ n (λ u. sum n (λ v. f u *ℤ g v)) (λ u. negsuc 0 *ℤ sum n (λ v. ind (eqb u v) *ℤ (f u *ℤ g v)))
    ∙ ap₂ ◌+ℤ◌ (sym (sum_prod n f g)) (sum-* n (negsuc 0) (λ u. sum n (λ v. ind (eqb u v) *ℤ (f u *ℤ g v))) ∙ ap (λ y. negsuc 0 *ℤ y) (sum_diag n f g))
    ∙ by-ring (sum n f ∷ sum n g ∷ sum n (λ u. f u *ℤ g u) ∷ []) (search quote depth 20) tt
  where
    off : (c : Bool) (y : ℤ) → ind (not c) *ℤ y ≡ y +ℤ negsuc 0 *ℤ (ind c *ℤ y)
    off c y = ap (λ z. z *ℤ y) (either c) ∙ by-ring (ind c ∷ y ∷ []) (search quote depth 20) tt

module _ (K : ℕ) (par : ℕ → ℕ) where
  -- how often i and j are below one child of w
  abbrev same : ℕ → ℕ → ℕ → ℤ
  same w i j = sum K (λ u. ind (kid par w u) *ℤ (bit par u i *ℤ bit par u j))

  module _ (up : Up par K) (w i j : ℕ) (k : w ≤ K) (hi : i ≢ w) (hj : j ≢ w) where
    -- how many children's edges part the two
    by-children : sum K (λ u. ind (kid par w u) *ℤ ind (parts par u i j)) ≡ bit par w i +ℤ bit par w j -ℤ pos 2 *ℤ same w i j
    by-children =
        sum_cong K (λ u l. ap (λ y. ind (kid par w u) *ℤ y) (parts-ind par u i j) ∙ by-ring (ind (kid par w u) ∷ bit par u i ∷ bit par u j ∷ []) (search quote depth 20) tt)
        ∙ sum-+ K (λ u. ind (kid par w u) *ℤ bit par u i +ℤ ind (kid par w u) *ℤ bit par u j) (λ u. negsuc 1 *ℤ (ind (kid par w u) *ℤ (bit par u i *ℤ bit par u j)))
        ∙ ap₂ ◌+ℤ◌ (sum-+ K (λ u. ind (kid par w u) *ℤ bit par u i) (λ u. ind (kid par w u) *ℤ bit par u j) ∙ ap₂ ◌+ℤ◌ (sym (partition par K up w i k hi)) (sym (partition par K up w j k hj)))
        (sum-* K (negsuc 1) (λ u. ind (kid par w u) *ℤ (bit par u i *ℤ bit par u j)))
        ∙ by-ring (bit par w i ∷ bit par w j ∷ same w i j ∷ []) (search quote depth 20) tt

    across-is : across K par w (i, j) ≡ bit par w i *ℤ bit par w j -ℤ same w i j
    across-is = unfold across in sum-off K (λ u. ind (kid par w u) *ℤ bit par u i) (λ u. ind (kid par w u) *ℤ bit par u j)
        ∙ ap₂ (λ x y. x -ℤ y) (ap₂ ◌*ℤ◌ (sym (partition par K up w i k hi)) (sym (partition par K up w j k hj)))
        (sum_cong K (λ u l. by-ring (ind (kid par w u) ∷ bit par u i ∷ bit par u j ∷ []) (search quote depth 20) tt ∙ ap (λ y. y *ℤ (bit par u i *ℤ bit par u j)) (ind-sq (kid par w u))))

    at_pair : ind (parts par w i j) ≡ sum K (λ u. ind (kid par w u) *ℤ ind (parts par u i j)) +ℤ negsuc 1 *ℤ across K par w (i, j)
    at_pair = parts-ind par w i j ∙ by-ring (bit par w i ∷ bit par w j ∷ same w i j ∷ []) (search quote depth 20) tt
        ∙ sym (ap₂ (λ x y. x +ℤ negsuc 1 *ℤ y) by-children across-is)

module _ (N K : ℕ) (par : ℕ → ℕ) (up : Up par K) (d : ℕ × ℕ → ℤ) where
  -- an edge's sum of the distances that it parts
  abbrev split : ℕ → ℤ
  split u = pairs N (λ p. ind (parts_pair par u p) *ℤ d p)

  joined : (w : ℕ) → N ≤ w → w ≤ K → split w ≡ sum K (λ u. ind (kid par w u) *ℤ split u) -ℤ pos 2 *ℤ pairs N (λ p. across K par w p *ℤ d p)
  joined w h k =
      pairs_cong N (λ p l b. ap (λ y. y *ℤ d p) (at_pair K par up w p.0 p.1 k (omega arith) (omega arith))
      ∙ by-ring (sum K (λ u. ind (kid par w u) *ℤ ind (parts par u p.0 p.1)) ∷ across K par w p ∷ d p ∷ []) (search quote depth 20) tt
      ∙ ap (λ y. y +ℤ negsuc 1 *ℤ (across K par w p *ℤ d p))
      (sym (sum-*ʳ K (d p) (λ u. ind (kid par w u) *ℤ ind (parts par u p.0 p.1)))
      ∙ sum_cong K (λ u _. by-ring (ind (kid par w u) ∷ ind (parts par u p.0 p.1) ∷ d p ∷ []) (search quote depth 20) tt)))
      ∙ L.add (λ p. sum K (λ u. ind (kid par w u) *ℤ (ind (parts par u p.0 p.1) *ℤ d p))) (λ p. negsuc 1 *ℤ (across K par w p *ℤ d p))
      ∙ ap₂ ◌+ℤ◌
      (S-swap L K (λ u p. ind (kid par w u) *ℤ (ind (parts par u p.0 p.1) *ℤ d p)) ∙ sum_cong K (λ u _. L.scale (ind (kid par w u)) (λ p. ind (parts par u p.0 p.1) *ℤ d p)))
      (L.scale (negsuc 1) (λ p. across K par w p *ℤ d p))
      ∙ by-ring (sum K (λ u. ind (kid par w u) *ℤ split u) ∷ pairs N (λ p. across K par w p *ℤ d p) ∷ []) (search quote depth 20) tt
    where
      L : Sums (pairs N)
      L = pairs-sums N

-- both equations, of every allowed tree
pub split_steps : (N : ℕ) (ds ps : List ℕ) → Allowed N (length ps) (parent_of ps) → SplitSteps N ds ps
split_steps N ds ps w = record {
  outer = λ i h. row N ds ps w i h;
  inner = λ v h l. all-parted N ds ps v ∙ joined N (length ps) (parent_of ps) w.up (distance ds) v h (omega arith)
      ∙ ap (λ y. y -ℤ pos 2 *ℤ pairs N (λ p. across (length ps) (parent_of ps) v p *ℤ distance ds p))
      (sum_cong (length ps) (λ u _. ap (λ y. ind (kid (parent_of ps) v u) *ℤ y) (sym (all-parted N ds ps u))));
}
