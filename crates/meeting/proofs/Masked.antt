-- Sums over the strains of a mask: one strain taken off, and the laws of sums.
use Rattle.std.proofs.Common.{◌≡◌, ℕ, ◌≤◌, Bool, true, false, eqb, [], ◌∷◌, ℤ, pos, ◌+ℤ◌, ◌*ℤ◌, nat_abs, sym, refl, ap, ◌∙◌, arith}
use lib.IntN.{zero-*ℤ}
use Rattle.exact.specs.Sum.{sum, ind}
use Rattle.exact.proofs.Decide.{eq_yes}
use Rattle.exact.proofs.Quote.{by-ring, quote}
use Rattle.exact.proofs.Sum.{sum_cong, sum-cut, sum-+, sum-*, sum-at, sum-zero, ind-no}
use Rattle.matrix.specs.Limits.{max_strains}
use Rattle.tree_theory.specs.Cluster.{bit_at, mask}
use Rattle.tree_theory.proofs.Masks.{mask-bit, mask_lt, bit_past}
use Rattle.meeting.specs.declared.Low.{Low}
use Rattle.meeting.specs.Meeting.{over, LowestStrain}

-- no strain in the mask 0
pub bit-none : (k : ℕ) → bit_at 0 k ≡ false
bit-none k = bit_past 0 0 k (omega arith) (omega arith)

pub over_none : (f : ℕ → ℤ) → over 0 f ≡ pos 0
unfolding over
over_none f = sum_cong max_strains (λ i _. ap (λ y. y *ℤ f i) (ind-no (bit-none i)) ∙ zero-*ℤ (f i)) ∙ sum-zero max_strains

pub over_cong : (m : ℕ) (f g : ℕ → ℤ) → ((i : ℕ) → bit_at m i ≡ true → f i ≡ g i) → over m f ≡ over m g
unfolding over
over_cong m f g h = sum_cong max_strains (λ i _. at i (bit_at m i) refl)
  where
    at : (i : ℕ) (b : Bool) → bit_at m i ≡ b → ind (bit_at m i) *ℤ f i ≡ ind (bit_at m i) *ℤ g i
    at i true e = ap (λ y. ind (bit_at m i) *ℤ y) (h i e)
    at i false e = ap (λ y. y *ℤ f i) (ind-no e) ∙ zero-*ℤ (f i) ∙ sym (ap (λ y. y *ℤ g i) (ind-no e) ∙ zero-*ℤ (g i))

pub over-+ : (m : ℕ) (f g : ℕ → ℤ) → over m (λ i. f i +ℤ g i) ≡ over m f +ℤ over m g
unfolding over
over-+ m f g = sum_cong max_strains (λ i _. by-ring (ind (bit_at m i) ∷ f i ∷ g i ∷ []) (search quote depth 20) tt)
    ∙ sum-+ max_strains (λ i. ind (bit_at m i) *ℤ f i) (λ i. ind (bit_at m i) *ℤ g i)

pub over-* : (m : ℕ) (c : ℤ) (f : ℕ → ℤ) → over m (λ i. c *ℤ f i) ≡ c *ℤ over m f
unfolding over
over-* m c f = sum_cong max_strains (λ i _. by-ring (ind (bit_at m i) ∷ c ∷ f i ∷ []) (search quote depth 20) tt)
    ∙ sum-* max_strains c (λ i. ind (bit_at m i) *ℤ f i)

-- the strains of a mask of n strains
pub over-mask : (n : ℕ) (b : ℕ → Bool) (f : ℕ → ℤ) → n ≤ max_strains → over (mask n b) f ≡ sum n (λ i. ind (b i) *ℤ f i)
unfolding over
over-mask n b f h =
    sum-cut max_strains n (λ i. ind (bit_at (mask n b) i) *ℤ f i) h (λ i l _. ap (λ y. y *ℤ f i) (ind-no (bit_past n (mask n b) i (mask_lt n b) l)) ∙ zero-*ℤ (f i))
    ∙ sum_cong n (λ i l. ap (λ c. ind c *ℤ f i) (mask-bit n b i l))

-- ---- the lowest strain taken off
one_only : (a b c : Bool) → ind a ≡ ind b +ℤ ind c → (b ≡ true → a ≡ true) × (c ≡ true → a ≡ true)
unfolding ind
one_only true b c e = (λ _. refl, λ _. refl)
one_only false true true e = absurd (omega (arith, ap nat_abs e))
one_only false true false e = absurd (omega (arith, ap nat_abs e))
one_only false false true e = absurd (omega (arith, ap nat_abs e))
one_only false false false e = (λ q. q, λ q. q)

module _ (m : ℕ) (r : Low) (w : LowestStrain m r) where
  pub low_in : bit_at m r.strain ≡ true
  low_in = (one_only (bit_at m r.strain) (bit_at r.rest r.strain) (eqb r.strain r.strain) (w.bits r.strain)).1 (eq_yes {a = r.strain} {b = r.strain} refl)

  pub rest_in : (k : ℕ) → bit_at r.rest k ≡ true → bit_at m k ≡ true
  rest_in k = (one_only (bit_at m k) (bit_at r.rest k) (eqb k r.strain) (w.bits k)).0

  pub over-low : (f : ℕ → ℤ) → over m f ≡ f r.strain +ℤ over r.rest f
  unfolding over
  over-low f = sum_cong max_strains (λ i _. ap (λ y. y *ℤ f i) (w.bits i) ∙ by-ring (ind (bit_at r.rest i) ∷ ind (eqb i r.strain) ∷ f i ∷ []) (search quote depth 20) tt)
      ∙ sum-+ max_strains (λ i. ind (eqb i r.strain) *ℤ f i) (λ i. ind (bit_at r.rest i) *ℤ f i)
      ∙ ap (λ y. y +ℤ sum max_strains (λ i. ind (bit_at r.rest i) *ℤ f i)) (sum-at max_strains r.strain f w.within)
