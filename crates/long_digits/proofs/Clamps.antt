-- Laws of `clamp`. `clamp-next` is the one that a loop over digits leans on: a number may be cut off before the next digit
-- comes, if no digit is too large. `sign-..`: the tests of a number's sign give the same of the number cut off.
use mathlib.Core.Path.{◌≡◌, refl, sym, ◌∙◌, ap, subst}
use mathlib.Core.Bool.{Bool, true, false, cond, not}
use mathlib.Core.List.{[], ◌∷◌}
use mathlib.Core.Logic.{◌⊎◌, inl, inr}
use Prim.Native.Nat.{ℕ, zero, suc, ◌+◌, ◌*◌, ◌≤◌, ◌<◌}
use native.Mathlib.Omega.{arith}
use borrow.Author.Tests.{ltb-true, ltb-false, le-ltb, lt-ltb}
use lib.Dec.{eqb, ltb, le→leb}
use lib.IntN.{ℤ, pos, negsuc, neg_ℤ, nat_abs, ◌+ℤ◌, ◌*ℤ◌}
use lib.Signed.{lt_z, ≤ℤ_refl}
use Rattle.exact.specs.Order.{◌≤ᶻ◌, ◌<ᶻ◌, Within}
use Rattle.exact.proofs.Quote.{by-ring, quote}
use Rattle.exact.proofs.Order.{nn+, nn*, nn-pos, nn_sub, le-by, pos-≤, ≤-pos, ≤_trans, ≤-antisym}
use Rattle.exact.proofs.Decide.{eq_no}
use Rattle.exact.proofs.Sign.{nat_abs_neg, abs→within, lt_or_ge}
use Rattle.long_digits.specs.Digits.{base}
use Rattle.long_digits.specs.Clamp.{clamp}

-- ---- what it is
cut : (T n : ℕ) → cond (ltb T n) T n ≤ T
cut T n = go (ltb T n) refl
  where
    go : (t : Bool) → ltb T n ≡ t → cond t T n ≤ T
    go true e = omega arith
    go false e = ltb-false T n e

pub clamp-near : (T : ℕ) (z : ℤ) → nat_abs (clamp T z) ≤ T
unfolding clamp
clamp-near T (pos n) = cut T n
clamp-near T (negsuc n) = omega (arith, nat_abs_neg (pos (cond (ltb T (suc n)) T (suc n))), cut T (suc n))

pub clamp_in : (T : ℕ) (z : ℤ) → nat_abs z ≤ T → clamp T z ≡ z
unfolding clamp
clamp_in T (pos n) h = ap (λ b. pos (cond b T n)) (le-ltb T n h)
clamp_in T (negsuc n) h = ap (λ b. neg_ℤ (pos (cond b T (suc n)))) (le-ltb T (suc n) h)

over : (T n : ℕ) → T ≤ n → cond (ltb T n) T n ≡ T
over T n h = go (ltb T n) refl
  where
    go : (t : Bool) → ltb T n ≡ t → cond t T n ≡ T
    go true e = refl
    go false e = omega (arith, ltb-false T n e)

pub clamp-high : (T : ℕ) (z : ℤ) → pos T ≤ᶻ z → clamp T z ≡ pos T
unfolding clamp
clamp-high T (pos n) h = ap pos (over T n (≤-pos h))
clamp-high T (negsuc n) h = absurd h.le

pub clamp-low : (T : ℕ) (z : ℤ) → z ≤ᶻ neg_ℤ (pos T) → clamp T z ≡ neg_ℤ (pos T)
unfolding clamp
clamp-low zero (pos n) h = ap pos (over 0 n (omega arith))
clamp-low (suc T) (pos n) h = absurd h.le
clamp-low zero (negsuc n) h = ap (λ (k : ℕ). neg_ℤ (pos k)) (over 0 (suc n) (omega arith))
clamp-low (suc T) (negsuc n) h = ap (λ (k : ℕ). neg_ℤ (pos k)) (over (suc T) (suc n) (omega (arith, ≤-pos {m = T} {n = n} (record { le = h.le }))))

-- ---- one digit more
-- a number beyond t stays there
up : (t z e : ℤ) → Within (pos 999999 *ℤ t) e → t ≤ᶻ z → t ≤ᶻ pos base *ℤ z +ℤ e
up t z e h k = le-by (nn+ (nn* (nn-pos 1000000) (nn_sub k)) (nn_sub h.low)) (by-ring (t ∷ z ∷ e ∷ []) (search quote depth 20) tt)

down : (t z e : ℤ) → Within (pos 999999 *ℤ t) e → z ≤ᶻ neg_ℤ t → pos base *ℤ z +ℤ e ≤ᶻ neg_ℤ t
down t z e h k = le-by (nn+ (nn* (nn-pos 1000000) (nn_sub k)) (nn_sub h.high)) (by-ring (t ∷ z ∷ e ∷ []) (search quote depth 20) tt)

-- within T, or beyond on one side
sides : (T : ℕ) (z : ℤ) → (nat_abs z ≤ T) ⊎ ((pos T ≤ᶻ z) ⊎ (z ≤ᶻ neg_ℤ (pos T)))
sides T (pos n) = go (lt_or_ge T n)
  where
    go : (T < n) ⊎ (n ≤ T) → (n ≤ T) ⊎ ((pos T ≤ᶻ pos n) ⊎ (pos n ≤ᶻ neg_ℤ (pos T)))
    go (inl h) = inr (inl (pos-≤ (omega arith)))
    go (inr h) = inl h
sides zero (negsuc n) = inr (inr (record { le = tt }))
sides (suc T) (negsuc n) = go (lt_or_ge T n)
  where
    go : (T < n) ⊎ (n ≤ T) → (suc n ≤ suc T) ⊎ ((pos (suc T) ≤ᶻ negsuc n) ⊎ (negsuc n ≤ᶻ negsuc T))
    go (inl h) = inr (inr (record { le = le→leb T n (omega arith) }))
    go (inr h) = inl (omega arith)

pub clamp-next : (T : ℕ) (e : ℤ) → nat_abs e ≤ 999999 * T → (z : ℤ) → clamp T (pos base *ℤ clamp T z +ℤ e) ≡ clamp T (pos base *ℤ z +ℤ e)
clamp-next T e h z = go (sides T z)
  where
    near : Within (pos (999999 * T)) e
    near = abs→within (999999 * T) e h

    go : (nat_abs z ≤ T) ⊎ ((pos T ≤ᶻ z) ⊎ (z ≤ᶻ neg_ℤ (pos T))) → clamp T (pos base *ℤ clamp T z +ℤ e) ≡ clamp T (pos base *ℤ z +ℤ e)
    go (inl k) = ap (λ x. clamp T (pos base *ℤ x +ℤ e)) (clamp_in T z k)
    go (inr (inl k)) = ap (λ x. clamp T (pos base *ℤ x +ℤ e)) (clamp-high T z k)
        ∙ clamp-high T (pos base *ℤ pos T +ℤ e) (up (pos T) (pos T) e near (≤ℤ_refl (pos T)))
        ∙ sym (clamp-high T (pos base *ℤ z +ℤ e) (up (pos T) z e near k))
    go (inr (inr k)) = ap (λ x. clamp T (pos base *ℤ x +ℤ e)) (clamp-low T z k)
        ∙ clamp-low T (pos base *ℤ neg_ℤ (pos T) +ℤ e) (down (pos T) (neg_ℤ (pos T)) e near (≤ℤ_refl (neg_ℤ (pos T))))
        ∙ sym (clamp-low T (pos base *ℤ z +ℤ e) (down (pos T) z e near k))

-- ---- the sign
module _ (T : ℕ) where
  cut-zero : (n : ℕ) → eqb (cond (ltb (suc T) n) (suc T) n) 0 ≡ eqb n 0
  cut-zero n = go (ltb (suc T) n) refl
    where
      go : (t : Bool) → ltb (suc T) n ≡ t → eqb (cond t (suc T) n) 0 ≡ eqb n 0
      go true e = eq_no {a = suc T} {b = 0} (omega arith) ∙ sym (eq_no {a = n} {b = 0} (omega (arith, ltb-true (suc T) n e)))
      go false e = refl

  cut-above : (n : ℕ) → ltb 0 (cond (ltb (suc T) n) (suc T) n) ≡ ltb 0 n
  cut-above n = go (ltb (suc T) n) refl
    where
      go : (t : Bool) → ltb (suc T) n ≡ t → ltb 0 (cond t (suc T) n) ≡ ltb 0 n
      go true e = lt-ltb 0 (suc T) (omega arith) ∙ sym (lt-ltb 0 n (omega (arith, ltb-true (suc T) n e)))
      go false e = refl

  -- a negative number stays negative
  cut_neg : {A : Type 0} (f : ℤ → A) (a : A) (n : ℕ) → ((k : ℕ) → f (negsuc k) ≡ a) → f (neg_ℤ (pos (cond (ltb (suc T) (suc n)) (suc T) (suc n)))) ≡ a
  cut_neg {A} f a n h = go (ltb (suc T) (suc n))
    where
      go : (t : Bool) → f (neg_ℤ (pos (cond t (suc T) (suc n)))) ≡ a
      go true = h T
      go false = h n

  pub sign_zero : (z : ℤ) → eqb (nat_abs (clamp (suc T) z)) 0 ≡ eqb (nat_abs z) 0
  unfolding clamp
  sign_zero (pos n) = cut-zero n
  sign_zero (negsuc n) = cut_neg (λ (y : ℤ). eqb (nat_abs y) 0) (eqb (suc n) 0) n (λ k. eq_no {a = suc k} {b = 0} (omega arith) ∙ sym (eq_no {a = suc n} {b = 0} (omega arith)))

  pub sign_above : (z : ℤ) → lt_z (pos 0) (clamp (suc T) z) ≡ lt_z (pos 0) z
  unfolding clamp
  sign_above (pos n) = cut-above n
  sign_above (negsuc n) = cut_neg (λ (y : ℤ). lt_z (pos 0) y) (lt_z (pos 0) (negsuc n)) n (λ k. refl)

  pub sign_below : (z : ℤ) → lt_z (clamp (suc T) z) (pos 0) ≡ lt_z z (pos 0)
  unfolding clamp
  sign_below (pos n) = le-ltb (cond (ltb (suc T) n) (suc T) n) 0 (omega arith) ∙ sym (le-ltb n 0 (omega arith))
  sign_below (negsuc n) = cut_neg (λ (y : ℤ). lt_z y (pos 0)) (lt_z (negsuc n) (pos 0)) n (λ k. refl)
