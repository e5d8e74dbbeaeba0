-- How far a length is from 0, by the signs of 2000·n ∓ 2·10^11·D, and what 11, 12 and 13 are where each test found nothing.
use mathlib.Core.Path.{◌≡◌, refl, sym, ◌∙◌, ap}
use mathlib.Core.Bool.{Bool, true, false, ◌||◌, ◌&&◌}
use mathlib.Core.List.{[], ◌∷◌}
use mathlib.Core.Logic.{◌⊎◌, inl, inr}
use Prim.Native.Nat.{ℕ, ◌*◌, ◌≤◌, ◌<◌}
use borrow.Author.Tests.{lt-ltb, le-ltb}
use lib.Dec.{ltb}
use lib.IntN.{ℤ, pos, neg_ℤ, nat_abs, ◌*ℤ◌}
use lib.Signed.{lt_z, clash_ℤ}
use Rattle.exact.specs.Order.{◌≤ᶻ◌, Within}
use Rattle.exact.proofs.Quote.{by-ring, quote}
use Rattle.exact.proofs.Order.{le-by, nn*, nn-pos, nn_sub, *-cancel}
use Rattle.exact.proofs.Sign.{abs→within, within→abs, lt_or_ge}
use Rattle.long_digits.specs.Clamp.{clamp, most}
use Rattle.long_digits.proofs.Clamps.{sign_above, sign_below}
use Rattle.fit_theory.proofs.Zeros.{yes-less, no_less}
use Rattle.long_theory.specs.Long.{max_length}
use Rattle.long_lengths.specs.Edge.{measure}

-- over whole numbers D and n
high : (D n : ℤ) → n ≤ᶻ pos 100000000 *ℤ D → measure (neg_ℤ (pos 200000000000)) D n ≤ᶻ pos 0
high D n h = le-by (nn* (nn-pos 2000) (nn_sub h)) (by-ring (D ∷ n ∷ []) (search quote depth 20) tt)

low : (D n : ℤ) → neg_ℤ (pos 100000000 *ℤ D) ≤ᶻ n → pos 0 ≤ᶻ measure (pos 200000000000) D n
low D n h = le-by (nn* (nn-pos 2000) (nn_sub h)) (by-ring (D ∷ n ∷ []) (search quote depth 20) tt)

high-back : (D n : ℤ) → measure (neg_ℤ (pos 200000000000)) D n ≤ᶻ pos 0 → n ≤ᶻ pos 100000000 *ℤ D
high-back D n h = *-cancel {c = pos 2000} (record { lt = tt }) (le-by (nn_sub h) (by-ring (D ∷ n ∷ []) (search quote depth 20) tt))

low-back : (D n : ℤ) → pos 0 ≤ᶻ measure (pos 200000000000) D n → neg_ℤ (pos 100000000 *ℤ D) ≤ᶻ n
low-back D n h = *-cancel {c = pos 2000} (record { lt = tt }) (le-by (nn_sub h) (by-ring (D ∷ n ∷ []) (search quote depth 20) tt))

module _ (D : ℕ) (n : ℤ) where
  far_or_near : (ltb (max_length * D) (nat_abs n) ≡ true) ⊎ Within (pos (max_length * D)) n
  far_or_near = go (lt_or_ge (max_length * D) (nat_abs n))
    where
      go : (max_length * D < nat_abs n) ⊎ (nat_abs n ≤ max_length * D) → (ltb (max_length * D) (nat_abs n) ≡ true) ⊎ Within (pos (max_length * D)) n
      go (inl l) = inl (lt-ltb (max_length * D) (nat_abs n) l)
      go (inr l) = inr (abs→within (max_length * D) n l)

  -- the code's tests of numbers cut off
  pub beyond-above : (y : ℤ) → y ≡ clamp most (measure (neg_ℤ (pos 200000000000)) (pos D) n) → lt_z (pos 0) y ≡ true → true ≡ ltb (max_length * D) (nat_abs n)
  beyond-above y e t = go far_or_near
    where
      go : (ltb (max_length * D) (nat_abs n) ≡ true) ⊎ Within (pos (max_length * D)) n → true ≡ ltb (max_length * D) (nat_abs n)
      go (inl q) = sym q
      go (inr w) = clash_ℤ (yes-less (sym (ap (λ z. lt_z (pos 0) z) e ∙ sign_above 999999999999 (measure (neg_ℤ (pos 200000000000)) (pos D) n)) ∙ t)) (high (pos D) n w.high)

  pub beyond-below : (x y : ℤ) → x ≡ clamp most (measure (neg_ℤ (pos 200000000000)) (pos D) n) → lt_z (pos 0) x ≡ false
      → y ≡ clamp most (measure (pos 200000000000) (pos D) n) → lt_z y (pos 0) ≡ ltb (max_length * D) (nat_abs n)
  beyond-below x y e t f = go (lt_z y (pos 0)) refl far_or_near
    where
      second : lt_z y (pos 0) ≡ lt_z (measure (pos 200000000000) (pos D) n) (pos 0)
      second = ap (λ z. lt_z z (pos 0)) f ∙ sign_below 999999999999 (measure (pos 200000000000) (pos D) n)

      up : n ≤ᶻ pos 100000000 *ℤ pos D
      up = high-back (pos D) n (no_less (sym (ap (λ z. lt_z (pos 0) z) e ∙ sign_above 999999999999 (measure (neg_ℤ (pos 200000000000)) (pos D) n)) ∙ t))

      go : (b : Bool) → lt_z y (pos 0) ≡ b → (ltb (max_length * D) (nat_abs n) ≡ true) ⊎ Within (pos (max_length * D)) n → b ≡ ltb (max_length * D) (nat_abs n)
      go true q (inl l) = sym l
      go true q (inr w) = clash_ℤ (yes-less (sym second ∙ q)) (low (pos D) n w.low)
      go false q _ = sym (le-ltb (max_length * D) (nat_abs n) (within→abs (max_length * D) n (record { low = low-back (pos D) n (no_less (sym second ∙ q)); high = up })))

-- ---- tests one behind the other
pub or_met : (a b : Bool) → a ≡ true → true ≡ (a || b)
or_met a b e = rw e

pub or_past : (a b r : Bool) → a ≡ false → r ≡ b → r ≡ (a || b)
or_past a b r e f = rw e f

pub and_none : (a b : Bool) → a ≡ false → false ≡ (a && b)
and_none a b e = rw e

pub and-past : (a b r : Bool) → a ≡ true → r ≡ b → r ≡ (a && b)
and-past a b r e f = rw e f
