-- Laws of numbers in digits.
use mathlib.Core.Path.{◌≡◌, refl, sym, ◌∙◌, ap, ap₂}
use mathlib.Core.List.{[], ◌∷◌}
use Prim.Native.Nat.{ℕ, zero, suc, ◌+◌, ◌*◌, ◌<◌}
use native.Mathlib.Decide.{ℕ_discrete}
use native.Mathlib.Omega.{arith}
use lib.IntN.{ℤ, pos, ◌+ℤ◌, ◌*ℤ◌, *ℤ-zero}
use Rattle.exact.specs.Sum.{sum}
use Rattle.exact.proofs.Quote.{by-ring, quote}
use Rattle.exact.proofs.Sum.{sum-+, sum-*, sum-zero}
use Rattle.long_digits.specs.Digits.{base, value, natural}

pub value-suc : (L : ℕ) (f : ℕ → ℤ) → value (suc L) f ≡ pos base *ℤ value L f +ℤ f L
unfolding value
value-suc L f = refl

pub value_none : (f : ℕ → ℤ) → value 0 f ≡ pos 0
unfolding value
value_none f = refl

pub value_cong : (L : ℕ) {f g : ℕ → ℤ} → ((k : ℕ) → k < L → f k ≡ g k) → value L f ≡ value L g
unfolding value
value_cong zero h = refl
value_cong (suc L) h = ap₂ (λ x y. pos base *ℤ x +ℤ y) (value_cong L (λ k l. h k (omega arith))) (h L (omega arith))

-- of natural digits
pub value_pos : (L : ℕ) (f : ℕ → ℕ) → value L (λ k. pos (f k)) ≡ pos (natural L f)
unfolding value natural
value_pos zero f = refl
value_pos (suc L) f = ap (λ x. pos base *ℤ x +ℤ pos (f L)) (value_pos L f)

-- one digit
pub value-one : (f : ℕ → ℤ) → value 1 f ≡ f 0
unfolding value
value-one f = by-ring (f 0 ∷ []) (search quote depth 20) tt

-- a sum of numbers is the number of the digits' sums
pub sum-value : (K L : ℕ) (n : ℕ → ℕ → ℤ) → sum K (λ v. value L (λ k. n k v)) ≡ value L (λ k. sum K (n k))
unfolding value
sum-value K zero n = sum-zero K
sum-value K (suc L) n =
    sum-+ K (λ v. pos base *ℤ value L (λ k. n k v)) (n L)
    ∙ ap (λ x. x +ℤ sum K (n L)) (sum-* K (pos base) (λ v. value L (λ k. n k v)) ∙ ap (λ x. pos base *ℤ x) (sum-value K L n))

-- a number is 0 exactly where every digit is
pub natural-none : (L : ℕ) (f : ℕ → ℕ) → ((k : ℕ) → k < L → f k ≡ 0) → natural L f ≡ 0
unfolding natural
natural-none zero f h = refl
natural-none (suc L) f h = omega (arith, natural-none L f (λ k l. h k (omega arith)), h L (omega arith))

pub none-natural : (L : ℕ) (f : ℕ → ℕ) → natural L f ≡ 0 → (k : ℕ) → k < L → f k ≡ 0
unfolding natural
none-natural zero f e k l = absurd (omega arith)
none-natural (suc L) f e k l = let ih : natural L f ≡ 0 → k < L → f k ≡ 0 = λ q. none-natural L f q k in go (ℕ_discrete k L) ih
  where
    go : Dec (k ≡ L) → (natural L f ≡ 0 → k < L → f k ≡ 0) → f k ≡ 0
    go (yes q) ih = ap f q ∙ omega (arith, e)
    go (no q) ih = ih (omega (arith, e)) (omega arith)

pub natural-suc : (L : ℕ) (f : ℕ → ℕ) → natural (suc L) f ≡ base * natural L f + f L
unfolding natural
natural-suc L f = refl
