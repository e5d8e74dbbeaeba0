-- Products modulo 2^64. The idea: of two numbers in digits of base 2^32 the product of the higher digits is whole turns, and of the two crossed
-- ones only their lower digits count.
use Rattle.std.proofs.Common.{◌≡◌, ℕ, ◌+◌, ◌*◌, ◌/◌, ◌%◌, ◌^◌, ◌<◌, ◌≤◌, true, false, [], ◌∷◌, ℤ, pos, ◌+ℤ◌, ◌-ℤ◌, ◌*ℤ◌, neg_ℤ, nat_abs, sym, ap, ◌∙◌, ap₂, mul-le-mul, add-one, arith}
use lib.Signed.{le_z, mag}
use Rattle.exact.specs.Modulo.{Modulo}
use Rattle.exact.proofs.Quote.{by-ring, quote}
use Rattle.exact.proofs.Modular.{modulo_add, modulo_sub}
use Rattle.exact.proofs.Sign.{is_pos, is_neg, neg_abs}

-- digits below 2^32 have a product that fits
pub digits-fit : (x y : ℕ) → x ≤ 4294967295 → y ≤ 4294967295 → x * y < 2 ^ 64
digits-fit x y h k = omega (arith, mul-le-mul {n₁ = x} {m₁ = y} {n₂ = 4294967295} {m₂ = 4294967295} h k)

pos-digits : (a b c d h : ℤ) → (h *ℤ a +ℤ b) *ℤ (h *ℤ c +ℤ d) ≡ b *ℤ d +ℤ (a *ℤ d +ℤ b *ℤ c) *ℤ h +ℤ (a *ℤ c) *ℤ (h *ℤ h)
pos-digits a b c d h = by-ring (a ∷ b ∷ c ∷ d ∷ h ∷ []) (search quote depth 20) tt

by_digits : (a b c d : ℕ) → (4294967296 * a + b) * (4294967296 * c + d) ≡ b * d + (a * d + b * c) * 4294967296 + (a * c) * 18446744073709551616
by_digits a b c d = ap nat_abs (pos-digits (pos a) (pos b) (pos c) (pos d) (pos 4294967296))

turned : (l p q m cross r n : ℕ) → cross ≡ (p + q) % 2 ^ 64 → r ≡ (l + cross % 4294967296 * 4294967296) % 2 ^ 64
    → n ≡ l + (p + q) * 4294967296 + m * 18446744073709551616 → r ≡ n % 2 ^ 64
turned l p q m cross r n e f g = omega arith

split : (x : ℕ) → x ≡ 4294967296 * (x / 4294967296) + x % 4294967296
split x = omega arith

pub product_is : (x y cross r : ℕ) → cross ≡ ((x / 4294967296) * (y % 4294967296) + (x % 4294967296) * (y / 4294967296)) % 2 ^ 64
    → r ≡ ((x % 4294967296) * (y % 4294967296) + cross % 4294967296 * 4294967296) % 2 ^ 64 → r ≡ x * y % 2 ^ 64
product_is x y cross r e f =
    turned ((x % 4294967296) * (y % 4294967296)) ((x / 4294967296) * (y % 4294967296)) ((x % 4294967296) * (y / 4294967296)) ((x / 4294967296) * (y / 4294967296)) cross r (x * y) e f
    (ap₂ ◌*◌ (split x) (split y) ∙ by_digits (x / 4294967296) (x % 4294967296) (y / 4294967296) (y % 4294967296))

-- a number and what is left of it modulo 2^64 differ by whole turns
left_over : (n p : ℕ) → p ≡ n % 2 ^ 64 → pos n ≡ pos p +ℤ pos (n / 2 ^ 64) *ℤ pos (2 ^ 64)
left_over n p e = ap pos (omega arith)

-- the product taken with its sign: n is its size, p what is left of that
pub add-size : (a r n p : ℕ) (z : ℤ) → p ≡ n % 2 ^ 64 → z ≡ pos n → r ≡ (a + p) % 2 ^ 64 → Modulo r (pos a +ℤ z)
add-size a r n p z e f g = let m = modulo_add a r p g in record {
  turns = m.turns +ℤ pos (n / 2 ^ 64);
  same = join (pos a) (pos r) (pos p) (pos (n / 2 ^ 64)) m.turns (pos (2 ^ 64)) m.same (f ∙ left_over n p e);
}
  where
    join : (x y q k t w : ℤ) → x +ℤ q ≡ y +ℤ t *ℤ w → z ≡ q +ℤ k *ℤ w → x +ℤ z ≡ y +ℤ (t +ℤ k) *ℤ w
    join x y q k t w u v = ap (λ s. x +ℤ s) v ∙ by-ring (x ∷ q ∷ k ∷ w ∷ []) (search quote depth 20) tt
        ∙ ap (λ s. s +ℤ k *ℤ w) u ∙ by-ring (y ∷ t ∷ k ∷ w ∷ []) (search quote depth 20) tt

pub take-size : (a r n p : ℕ) (z : ℤ) → p ≡ n % 2 ^ 64 → z ≡ neg_ℤ (pos n) → (r + p) % 2 ^ 64 ≡ a → Modulo r (pos a +ℤ z)
take-size a r n p z e f g = let m = modulo_sub a r p g in record {
  turns = m.turns -ℤ pos (n / 2 ^ 64);
  same = join (pos a) (pos r) (pos p) (pos (n / 2 ^ 64)) m.turns (pos (2 ^ 64)) m.same (f ∙ ap neg_ℤ (left_over n p e));
}
  where
    join : (x y q k t w : ℤ) → x -ℤ q ≡ y +ℤ t *ℤ w → z ≡ neg_ℤ (q +ℤ k *ℤ w) → x +ℤ z ≡ y +ℤ (t -ℤ k) *ℤ w
    join x y q k t w u v = ap (λ s. x +ℤ s) v ∙ by-ring (x ∷ q ∷ k ∷ w ∷ []) (search quote depth 20) tt
        ∙ ap (λ s. s -ℤ k *ℤ w) u ∙ by-ring (y ∷ t ∷ k ∷ w ∷ []) (search quote depth 20) tt

-- ---- signs
below-zero : (t : ℤ) → le_z (pos 0) t ≡ false → t ≡ neg_ℤ (pos (nat_abs t))
below-zero t e = is_neg t e ∙ ap (λ (n : ℕ). neg_ℤ (pos n)) (sym (neg_abs t e ∙ add-one (mag t)))

module _ (a b : ℤ) where
  pub both-up : le_z (pos 0) a ≡ true → le_z (pos 0) b ≡ true → a *ℤ b ≡ pos (nat_abs a * nat_abs b)
  both-up e f = ap₂ ◌*ℤ◌ (is_pos a e) (is_pos b f)

  pub up-down : le_z (pos 0) a ≡ true → le_z (pos 0) b ≡ false → a *ℤ b ≡ neg_ℤ (pos (nat_abs a * nat_abs b))
  up-down e f = ap₂ ◌*ℤ◌ (is_pos a e) (below-zero b f) ∙ turn (pos (nat_abs a)) (pos (nat_abs b))
    where
      turn : (x y : ℤ) → x *ℤ neg_ℤ y ≡ neg_ℤ (x *ℤ y)
      turn x y = by-ring (x ∷ y ∷ []) (search quote depth 20) tt

  pub down-up : le_z (pos 0) a ≡ false → le_z (pos 0) b ≡ true → a *ℤ b ≡ neg_ℤ (pos (nat_abs a * nat_abs b))
  down-up e f = ap₂ ◌*ℤ◌ (below-zero a e) (is_pos b f) ∙ turn (pos (nat_abs a)) (pos (nat_abs b))
    where
      turn : (x y : ℤ) → neg_ℤ x *ℤ y ≡ neg_ℤ (x *ℤ y)
      turn x y = by-ring (x ∷ y ∷ []) (search quote depth 20) tt

  pub both-down : le_z (pos 0) a ≡ false → le_z (pos 0) b ≡ false → a *ℤ b ≡ pos (nat_abs a * nat_abs b)
  both-down e f = ap₂ ◌*ℤ◌ (below-zero a e) (below-zero b f) ∙ turn (pos (nat_abs a)) (pos (nat_abs b))
    where
      turn : (x y : ℤ) → neg_ℤ x *ℤ neg_ℤ y ≡ x *ℤ y
      turn x y = by-ring (x ∷ y ∷ []) (search quote depth 20) tt
