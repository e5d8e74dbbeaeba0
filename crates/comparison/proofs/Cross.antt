-- Two fractions a/d and b/e compared by the signs and the magnitudes of their cross products.
use mathlib.Core.Path.{◌≡◌, refl, sym, ◌∙◌}
use mathlib.Core.Bool.{true, false, true≢false}
use Prim.Native.Nat.{ℕ, zero, suc, ◌*◌, ◌≤◌}
use native.Mathlib.Omega.{arith}
use borrow.Author.Tests.{lt-ltb, le-ltb}
use lib.Dec.{ltb, leb-suc-suc}
use lib.IntN.{ℤ, pos, negsuc, neg_ℤ, ◌*ℤ◌, nat_abs}
use lib.Signed.{lt_z}

-- a native comparison computes at literals only
ltb-down : (x y : ℕ) → ltb (suc x) (suc y) ≡ ltb x y
ltb-down x y = leb-suc-suc (suc x) y

-- below zero the order turns round
under : (x y : ℕ) → lt_z (neg_ℤ (pos x)) (neg_ℤ (pos y)) ≡ ltb y x
under zero zero = refl
under zero (suc y) = sym (le-ltb (suc y) 0 (omega arith))
under (suc x) zero = sym (lt-ltb 0 (suc x) (omega arith))
under (suc x) (suc y) = sym (ltb-down y x)

over_none : (x y : ℕ) → 1 ≤ x → lt_z (neg_ℤ (pos x)) (pos y) ≡ true
over_none zero y h = absurd (omega (arith, h))
over_none (suc x) y h = refl

none_over : (x y : ℕ) → lt_z (pos x) (neg_ℤ (pos y)) ≡ false
none_over x zero = le-ltb x 0 (omega arith)
none_over x (suc y) = refl

not_below : (a : ℕ) → lt_z (pos a) (pos 0) ≡ true → ⊥
not_below a e = true≢false (sym e ∙ le-ltb a 0 (omega arith))

not_above : (a : ℕ) → lt_z (negsuc a) (pos 0) ≡ false → ⊥
not_above a e = true≢false e

pub both_negative : (a b : ℤ) (d e : ℕ) → lt_z a (pos 0) ≡ true → lt_z b (pos 0) ≡ true → ltb (nat_abs b * d) (nat_abs a * e) ≡ lt_z (a *ℤ pos e) (b *ℤ pos d)
both_negative (negsuc a) (negsuc b) d e p q = sym (under (suc a * e) (suc b * d))
both_negative (negsuc a) (pos b) d e p q = absurd (not_below b q)
both_negative (pos a) b d e p q = absurd (not_below a p)

pub first_negative : (a b : ℤ) (d e : ℕ) → 1 ≤ e → lt_z a (pos 0) ≡ true → lt_z b (pos 0) ≡ false → true ≡ lt_z (a *ℤ pos e) (b *ℤ pos d)
first_negative (negsuc a) (pos b) d e h p q = sym (over_none (suc a * e) (b * d) (omega (arith, h)))
first_negative (negsuc a) (negsuc b) d e h p q = absurd (not_above b q)
first_negative (pos a) b d e h p q = absurd (not_below a p)

pub second_negative : (a b : ℤ) (d e : ℕ) → lt_z a (pos 0) ≡ false → lt_z b (pos 0) ≡ true → false ≡ lt_z (a *ℤ pos e) (b *ℤ pos d)
second_negative (pos a) (negsuc b) d e p q = sym (none_over (a * e) (suc b * d))
second_negative (pos a) (pos b) d e p q = absurd (not_below b q)
second_negative (negsuc a) b d e p q = absurd (not_above a p)

pub none_negative : (a b : ℤ) (d e : ℕ) → lt_z a (pos 0) ≡ false → lt_z b (pos 0) ≡ false → ltb (nat_abs a * e) (nat_abs b * d) ≡ lt_z (a *ℤ pos e) (b *ℤ pos d)
none_negative (pos a) (pos b) d e p q = refl
none_negative (pos a) (negsuc b) d e p q = absurd (not_above b q)
none_negative (negsuc a) b d e p q = absurd (not_above a p)
