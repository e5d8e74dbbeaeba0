-- Laws of shares: what one more does to the sum below a vertex, and that no such sum is farther from 0 than all shares together.
use Rattle.std.proofs.Common.{◌≡◌, ℕ, zero, suc, ◌+◌, ◌^◌, ◌<◌, ◌≤◌, Bool, eqb, List, [], ◌∷◌, length, set, ℤ, pos, ◌+ℤ◌, ◌*ℤ◌, nat_abs, sym, refl, ap, ◌∙◌, ap₂, arith, length-set, get_or-set_other, get_or-set_same}
use native.Mathlib.Decide.{ℕ_discrete}
use lib.IntN.{+ℤ_idr, *ℤ-zero, zero-*ℤ}
use Rattle.exact.specs.Sum.{sum, ind}
use Rattle.exact.specs.Table.{table, entry_of}
use Rattle.exact.proofs.Decide.{by_cases, eq_yes, eq_no}
use Rattle.exact.proofs.Fill.{get_or_table_const}
use Rattle.exact.proofs.Quote.{by-ring, quote}
use Rattle.exact.proofs.Ring.{*ℤ-oneˡ}
use Rattle.exact.proofs.Sign.{nat_abs_add}
use Rattle.exact.proofs.Sweep.{ind_abs}
use Rattle.exact.proofs.Sum.{sum_cong, sum-+, sum-at, sum-zero, ind-yes, ind-no}
use Rattle.tree_theory.specs.Limits.{max_vertices}
use Rattle.tree_theory.specs.Chain.{below}
use Rattle.meeting.specs.Shares.{Put, under, mass}

-- x added to one entry
pub set-add : (k : ℕ) (x y : ℤ) (old : List ℤ) → k < length old → y ≡ entry_of old k +ℤ x
    → (w : ℕ) → entry_of (set old k y) w ≡ entry_of old w +ℤ ind (eqb w k) *ℤ x
set-add k x y old h q w = by_cases (ℕ_discrete w k)
    (λ r. rw r (get_or-set_same old k y (pos 0) h ∙ q ∙ ap (λ z. entry_of old k +ℤ z) (sym (ap (λ z. z *ℤ x) (ind-yes (eq_yes {a = k} {b = k} refl)) ∙ *ℤ-oneˡ x))))
    (λ r. get_or-set_other old k w y (pos 0) r ∙ sym (ap (λ z. entry_of old w +ℤ z) (ap (λ z. z *ℤ x) (ind-no (eq_no r)) ∙ zero-*ℤ x) ∙ +ℤ_idr (entry_of old w)))

-- what is put where it belongs
pub put-set : (k : ℕ) (x y : ℤ) (old : List ℤ) → k < max_vertices → length old ≡ max_vertices → y ≡ entry_of old k +ℤ x → Put k x old (set old k y)
put-set k x y old h e q = record { size = simp length-set e; entries = set-add k x y old (omega arith) q }

-- a weighted sum of the shares, with one more
pub put-sum : (k : ℕ) (x : ℤ) (old new : List ℤ) → k < max_vertices → Put k x old new → (b : ℕ → Bool)
    → sum max_vertices (λ u. ind (b u) *ℤ entry_of new u) ≡ sum max_vertices (λ u. ind (b u) *ℤ entry_of old u) +ℤ ind (b k) *ℤ x
put-sum k x old new h p b =
    sum_cong max_vertices (λ u _. ap (λ y. ind (b u) *ℤ y) (p.entries u) ∙ by-ring (ind (b u) ∷ entry_of old u ∷ ind (eqb u k) ∷ x ∷ []) (search quote depth 20) tt)
    ∙ sum-+ max_vertices (λ u. ind (b u) *ℤ entry_of old u) (λ u. ind (eqb u k) *ℤ (ind (b u) *ℤ x))
    ∙ ap (λ y. sum max_vertices (λ u. ind (b u) *ℤ entry_of old u) +ℤ y) (sum-at max_vertices k (λ u. ind (b u) *ℤ x) h)

pub put_under : (par : ℕ → ℕ) (k : ℕ) (x : ℤ) (old new : List ℤ) → k < max_vertices → Put k x old new → (v : ℕ)
    → under par new v ≡ under par old v +ℤ ind (below par k v) *ℤ x
unfolding under
put_under par k x old new h p v = put-sum k x old new h p (λ u. below par u v)

pub under_none : (par : ℕ → ℕ) (own : List ℤ) → own ≡ table max_vertices (λ _. pos 0) → (v : ℕ) → under par own v ≡ pos 0
unfolding under
under_none par own e v = sum_cong max_vertices (λ u _. ap (λ (l : List ℤ). ind (below par u v) *ℤ entry_of l u) e ∙ ap (λ y. ind (below par u v) *ℤ y) (get_or_table_const max_vertices (pos 0) u) ∙ *ℤ-zero (ind (below par u v))) ∙ sum-zero max_vertices

-- ---- magnitudes
pub mass-sum : (n : ℕ) (own : List ℤ) (b : ℕ → Bool) → nat_abs (sum n (λ u. ind (b u) *ℤ entry_of own u)) ≤ mass n own
unfolding sum mass
mass-sum zero own b = omega arith
mass-sum (suc n) own b = omega (arith, nat_abs_add (sum n (λ u. ind (b u) *ℤ entry_of own u)) (ind (b n) *ℤ entry_of own n), mass-sum n own b, ind_abs (b n) (entry_of own n))

pub mass-at : (n : ℕ) (own : List ℤ) (k : ℕ) → k < n → nat_abs (entry_of own k) ≤ mass n own
unfolding mass
mass-at zero own k h = absurd (omega arith)
mass-at (suc n) own k h = let ih : k < n → nat_abs (entry_of own k) ≤ mass n own = mass-at n own k in
    by_cases (ℕ_discrete k n) (λ e. rw e (omega arith)) (λ e. omega (arith, ih (omega arith)))

pub mass-none : (n : ℕ) (own : List ℤ) → own ≡ table max_vertices (λ _. pos 0) → mass n own ≡ 0
unfolding mass
mass-none zero own e = refl
mass-none (suc n) own e = omega (arith, mass-none n own e, ap nat_abs (ap (λ (l : List ℤ). entry_of l n) e ∙ get_or_table_const max_vertices (pos 0) n))

module _ (k : ℕ) (x : ℤ) (old new : List ℤ) (p : Put k x old new) where
  off_abs : (w : ℕ) → (w ≡ k → ⊥) → nat_abs (entry_of new w) ≡ nat_abs (entry_of old w)
  off_abs w r = ap nat_abs (p.entries w ∙ ap (λ z. entry_of old w +ℤ z) (ap (λ z. z *ℤ x) (ind-no (eq_no r)) ∙ zero-*ℤ x) ∙ +ℤ_idr (entry_of old w))

  at_abs : (w : ℕ) → nat_abs (entry_of new w) ≤ nat_abs (entry_of old w) + nat_abs x
  at_abs w = omega (arith, ap nat_abs (p.entries w), nat_abs_add (entry_of old w) (ind (eqb w k) *ℤ x), ind_abs (eqb w k) x)

  mass-low : (n : ℕ) → n ≤ k → mass n new ≡ mass n old
  unfolding mass
  mass-low zero h = refl
  mass-low (suc n) h = ap₂ ◌+◌ (mass-low n (omega arith)) (off_abs n (omega arith))

  pub mass-put : (n : ℕ) → mass n new ≤ mass n old + nat_abs x
  unfolding mass
  mass-put zero = omega arith
  mass-put (suc n) = let ih = mass-put n in by_cases (ℕ_discrete n k)
      (λ e. omega (arith, at_abs n, mass-low n (omega arith)))
      (λ e. omega (arith, off_abs n e, ih))

-- room for one more
pub put-room : (n : ℕ) (own : List ℤ) (k : ℕ) (x : ℤ) → k < n → mass n own + nat_abs x < 2 ^ 63
    → (nat_abs (entry_of own k +ℤ x) < 2 ^ 63) × (nat_abs (entry_of own k) < 2 ^ 63)
put-room n own k x h room = (omega (arith, mass-at n own k h, nat_abs_add (entry_of own k) x), omega (arith, mass-at n own k h))
