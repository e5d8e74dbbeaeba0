-- The tests of a sum, that it is not zero, on the number and on its 64 bits, and the tests of a sum beside its edge's numerator.
use mathlib.Core.Path.{◌≡◌, refl, sym, ◌∙◌, ap, subst}
use mathlib.Core.Bool.{Bool, true, false, not, ◌&&◌, true≢false}
use native.Mathlib.Omega.{arith}
use borrow.Author.Tests.{ne_eqb, eq-eqb, eqb-true, not-false}
use lib.Dec.{T, eqb}
use lib.IntN.{ℤ, pos, negsuc, nat_abs}
use lib.Signed.{lt_z, lt_z_yes, lt_z_no, clash_ℤ}
use denote.Floats.{is_true}
use Rattle.exact.specs.Order.{◌≤ᶻ◌, ◌<ᶻ◌}
use mir.Syntax.{w64}
use mir.Val.{SFits, to_z, of_z}
use mir.Facts.{to_z-of_z}

-- only zero has the magnitude 0
pub abs_zero : (z : ℤ) → nat_abs z ≡ 0 → z ≡ pos 0
abs_zero (pos n) e = ap pos e
abs_zero (negsuc n) e = absurd (omega arith)

pub zero-passes : {z : ℤ} → z ≡ pos 0 → not (eqb (nat_abs z) 0) ≡ false
zero-passes e = rw e

pub passes-zero : (z : ℤ) → not (eqb (nat_abs z) 0) ≡ false → z ≡ pos 0
passes-zero z e = abs_zero z (eqb-true (nat_abs z) 0 (not-false (eqb (nat_abs z) 0) e))

pub fails-zero : (z : ℤ) → not (eqb (nat_abs z) 0) ≡ true → z ≡ pos 0 → ⊥
fails-zero z e h = true≢false (sym e ∙ zero-passes h)

-- a comparison, as the order has it
pub yes-less : {a b : ℤ} → lt_z a b ≡ true → a <ᶻ b
yes-less {a} {b} e = lt_z_yes {a = a} {b = b} (subst T (sym e) tt)

less-yes : {a b : ℤ} → a <ᶻ b → lt_z a b ≡ true
less-yes {a} {b} h = is_true (lt_z a b) h.lt

pub less-no : {a b : ℤ} → b ≤ᶻ a → lt_z a b ≡ false
less-no {a} {b} h = go (lt_z a b) refl
  where
    go : (t : Bool) → lt_z a b ≡ t → t ≡ false
    go true e = clash_ℤ (yes-less e) h
    go false e = refl

pub no_less : {a b : ℤ} → lt_z a b ≡ false → b ≤ᶻ a
no_less {a} {b} e = lt_z_no {a = a} {b = b} (subst (λ (t : Bool). T (not t)) (sym e) tt)

and_yes : (a b : Bool) → (a && b) ≡ true → (a ≡ true) × (b ≡ true)
and_yes true b e = (refl, e)
and_yes false b e = absurd (true≢false (sym e))

not-true : (b : Bool) → not b ≡ true → b ≡ false
not-true true e = sym e
not-true false e = refl

-- a positive edge's sum is zero
pub balanced_passes : (n z : ℤ) → (pos 0 <ᶻ n → z ≡ pos 0) → (lt_z (pos 0) n && not (eqb (nat_abs z) 0)) ≡ false
balanced_passes n z h = go (lt_z (pos 0) n) refl
  where
    go : (t : Bool) → lt_z (pos 0) n ≡ t → (t && not (eqb (nat_abs z) 0)) ≡ false
    go true e = zero-passes (h (yes-less e))
    go false e = refl

pub passes_balanced : (n z : ℤ) → (lt_z (pos 0) n && not (eqb (nat_abs z) 0)) ≡ false → pos 0 <ᶻ n → z ≡ pos 0
passes_balanced n z e h = passes-zero z (subst (λ (t : Bool). (t && not (eqb (nat_abs z) 0)) ≡ false) (less-yes h) e)

pub fails_balanced : (n z : ℤ) → (lt_z (pos 0) n && not (eqb (nat_abs z) 0)) ≡ true → (pos 0 <ᶻ n) × (z ≡ pos 0 → ⊥)
fails_balanced n z e = let (a, b) = and_yes (lt_z (pos 0) n) (not (eqb (nat_abs z) 0)) e in (yes-less a, fails-zero z b)

-- a zero edge's sum is zero or less
pub unpulled_passes : (n z : ℤ) → (n ≡ pos 0 → z ≤ᶻ pos 0) → (not (not (eqb (nat_abs n) 0)) && lt_z (pos 0) z) ≡ false
unpulled_passes n z h = go (eqb (nat_abs n) 0) refl
  where
    go : (t : Bool) → eqb (nat_abs n) 0 ≡ t → (not (not t) && lt_z (pos 0) z) ≡ false
    go true e = less-no (h (abs_zero n (eqb-true (nat_abs n) 0 e)))
    go false e = refl

pub passes_unpulled : (n z : ℤ) → (not (not (eqb (nat_abs n) 0)) && lt_z (pos 0) z) ≡ false → n ≡ pos 0 → z ≤ᶻ pos 0
passes_unpulled n z e h = no_less (subst (λ (y : ℤ). (not (not (eqb (nat_abs y) 0)) && lt_z (pos 0) z) ≡ false) h e)

pub fails_unpulled : (n z : ℤ) → (not (not (eqb (nat_abs n) 0)) && lt_z (pos 0) z) ≡ true → (n ≡ pos 0) × (pos 0 <ᶻ z)
fails_unpulled n z e = let (a, b) = and_yes (not (not (eqb (nat_abs n) 0))) (lt_z (pos 0) z) e in (passes-zero n (not-true (not (eqb (nat_abs n) 0)) a), yes-less b)

pub not_negative : (n : ℤ) → pos 0 ≤ᶻ n → lt_z n (pos 0) ≡ false
not_negative n h = less-no h

pub negative_not : (n : ℤ) → lt_z n (pos 0) ≡ false → pos 0 ≤ᶻ n
negative_not n e = no_less e

-- no bit is set
pub bits-pass : (z : ℤ) → SFits w64 z → of_z w64 z ≡ 0 → not (eqb (nat_abs z) 0) ≡ false
bits-pass z f e = zero-passes (sym (to_z-of_z f) ∙ ap (to_z w64) e)

-- some bit is
pub bits_fail : (z : ℤ) → (of_z w64 z ≡ 0 → ⊥) → not (eqb (nat_abs z) 0) ≡ true
bits_fail z h = rw (ne_eqb (nat_abs z) 0 (λ e. h (ap (of_z w64) (abs_zero z e))))

-- so the test of the bits is the test of the number
pub bits-zero : (z : ℤ) → SFits w64 z → not (eqb (of_z w64 z) 0) ≡ not (eqb (nat_abs z) 0)
bits-zero z f = go (eqb (of_z w64 z) 0) refl
  where
    go : (t : Bool) → eqb (of_z w64 z) 0 ≡ t → not t ≡ not (eqb (nat_abs z) 0)
    go true e = sym (bits-pass z f (eqb-true (of_z w64 z) 0 e))
    go false e = sym (bits_fail z (λ h. true≢false (sym (eq-eqb (of_z w64 z) 0 h) ∙ e)))
