-- Twenty digits are enough for 64 bits, so a number's decimal is that of its tenth with one digit behind.
-- `digits-..` speak of any allowance of digits, `decimal-..` of twenty, `signed-..` of the sign in front.
use mathlib.Core.Path.{◌≡◌, refl, sym, ap, ◌∙◌}
use mathlib.Core.Bool.{true, false}
use mathlib.Core.List.{[], ◌∷◌, ◌++◌}
use Prim.Native.Nat.{ℕ, zero, suc, ◌+◌, ◌/◌, ◌%◌, ◌^◌, ◌<◌, ◌≤◌}
use native.Mathlib.Decide.{dec_lt}
use native.Mathlib.Omega.{arith}
use lib.IntN.{ℤ, pos, negsuc, nat_abs}
use lib.ListN.{length, length-append}
use lib.Signed.{le_z}
use borrow.Author.Tests.{lt-ltb, le-ltb}
use Rattle.exact.proofs.Decide.{by_cases}
use Rattle.exact.proofs.Sign.{is_pos, is_neg}
use Rattle.writing.specs.Text.{digits, decimal, signed}

pub digits-small : (k n : ℕ) → n < 10 → digits (suc k) n ≡ (48 + n) ∷ []
unfolding digits
digits-small k n h = simp (lt-ltb n 10 h)

pub digits_step : (k n : ℕ) → 10 ≤ n → digits (suc k) n ≡ digits k (n / 10) ++ ((48 + n % 10) ∷ [])
unfolding digits
digits_step k n h = simp (le-ltb n 10 h)

-- an allowance that n's digits do not use up may grow
pub digits-enough : (k n : ℕ) → n < 10 ^ suc k → digits (suc (suc k)) n ≡ digits (suc k) n
digits-enough zero n h = digits-small 1 n h ∙ sym (digits-small 0 n h)
digits-enough (suc k) n h =
    let ih : n / 10 < 10 ^ suc k → digits (suc (suc k)) (n / 10) ≡ digits (suc k) (n / 10) = digits-enough k (n / 10) in
    by_cases (dec_lt n 10)
    (λ lt. digits-small (suc (suc k)) n lt ∙ sym (digits-small (suc k) n lt))
    (λ ge. digits_step (suc (suc k)) n (omega arith)
    ∙ ap (λ l. l ++ ((48 + n % 10) ∷ [])) (ih (omega arith))
    ∙ sym (digits_step (suc k) n (omega arith)))

pub decimal-small : (n : ℕ) → n < 10 → decimal n ≡ (48 + n) ∷ []
decimal-small n h = digits-small 19 n h

pub decimal_step : (n : ℕ) → 10 ≤ n → n < 2 ^ 64 → decimal n ≡ decimal (n / 10) ++ ((48 + n % 10) ∷ [])
decimal_step n h b =
    digits_step 19 n h ∙ ap (λ l. l ++ ((48 + n % 10) ∷ [])) (sym (digits-enough 18 (n / 10) (omega arith)))

-- ---- lengths
pub digits-length : (k n : ℕ) → length (digits k n) ≤ k
unfolding digits
digits-length zero n = omega arith
digits-length (suc k) n =
    let ih : length (digits k (n / 10)) ≤ k = digits-length k (n / 10) in
    by_cases (dec_lt n 10)
    (λ lt. rw digits-small (omega arith))
    (λ ge. let h : 10 ≤ n = omega arith in rw digits_step (simp length-append (omega arith)))

pub decimal-length : (n : ℕ) → length (decimal n) ≤ 20
decimal-length n = digits-length 20 n

-- all but the last digit
pub tenth_length : (n : ℕ) → n < 2 ^ 64 → length (decimal (n / 10)) ≤ 19
tenth_length n h = rw (digits-enough 18 (n / 10) (omega arith)) (digits-length 19 (n / 10))

-- a decimal has a digit
pub decimal-some : (n : ℕ) → 1 ≤ length (decimal n)
decimal-some n =
    by_cases (dec_lt n 10)
    (λ lt. rw digits-small (omega arith))
    (λ ge. let h : 10 ≤ n = omega arith in rw digits_step (simp length-append (omega arith)))

pub signed-length : (z : ℤ) → length (signed z) ≤ 21
signed-length (pos n) = omega (arith, decimal-length n)
signed-length (negsuc n) = omega (arith, decimal-length (suc n))

pub signed-some : (z : ℤ) → 1 ≤ length (signed z)
signed-some (pos n) = decimal-some n
signed-some (negsuc n) = omega arith

-- ---- what the test `z >= 0` tells
pub signed-pos : (z : ℤ) → le_z (pos 0) z ≡ true → signed z ≡ decimal (nat_abs z)
signed-pos z e = ap signed (is_pos z e)

pub signed_neg : (z : ℤ) → le_z (pos 0) z ≡ false → signed z ≡ 45 ∷ decimal (nat_abs z)
signed_neg z e = ap signed (is_neg z e) ∙ ap (λ x. 45 ∷ decimal (nat_abs x)) (sym (is_neg z e))

-- ---- worked examples
pub examples :
    (decimal 0 ≡ 48 ∷ [])
    × (decimal 7 ≡ 55 ∷ [])
    × (decimal 10 ≡ 49 ∷ 48 ∷ [])
    × (decimal 65535 ≡ 54 ∷ 53 ∷ 53 ∷ 51 ∷ 53 ∷ [])
    × (decimal 18446744073709551615 ≡ 49 ∷ 56 ∷ 52 ∷ 52 ∷ 54 ∷ 55 ∷ 52 ∷ 52 ∷ 48 ∷ 55 ∷ 51 ∷ 55 ∷ 48 ∷ 57 ∷ 53 ∷ 53 ∷ 49 ∷ 54 ∷ 49 ∷ 53 ∷ [])
    × (signed (negsuc 166) ≡ 45 ∷ 49 ∷ 54 ∷ 55 ∷ [])
unfolding digits
examples = (refl, refl, refl, refl, refl, refl)
