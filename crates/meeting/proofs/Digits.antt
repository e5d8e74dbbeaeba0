-- The lowest strain of a mask. The idea: digit by digit from the lowest. Where the lowest digit is set, taking it off leaves the others;
-- where it is not, the law for the other digits is the law for all. `off`: the digits that m shares with m - 1 are m's without its lowest.
use Rattle.std.proofs.Common.{◌≡◌, ℕ, zero, suc, ◌+◌, ◌-◌, ◌*◌, ◌/◌, ◌%◌, ◌^◌, ◌<◌, ◌≤◌, min, true, false, eqb, ◌≢◌, ◌+ℤ◌, sym, refl, ap, ◌∙◌, ap₂, pow-suc, div-one, arith, pow_pos}
use native.Mathlib.Decide.{ℕ_discrete}
use native.Mathlib.Nat.{pow-succ', div-div-eq-div-mul, min-zero, zero-min}
use lib.Bits.{bit_and, and_step, and_self}
use lib.Count.{ones, ones_step, count_trailing_zeros}
use lib.IntN.{+ℤ_idr}
use Rattle.exact.specs.Sum.{ind}
use Rattle.exact.proofs.Decide.{by_cases, eq_yes, eq_no}
use Rattle.exact.proofs.Sum.{ind-no}
use Rattle.tree_theory.specs.Cluster.{bit_at}

-- digit i of m is its lowest that is set
pub record Lows (k m i : ℕ) : Type 0 where
  pub within : i < k
  pub some : 2 ^ i ≤ m
  pub bits : (j : ℕ) → ind (bit_at m j) ≡ ind (bit_at (m - 2 ^ i) j) +ℤ ind (eqb j i)
  pub fewer : ones m ≡ suc (ones (m - 2 ^ i))
  pub off : bit_and m (m - 1) ≡ m - 2 ^ i

-- the digits above the lowest
pub bit-suc : (m j : ℕ) → bit_at m (suc j) ≡ bit_at (m / 2) j
bit-suc m j = ap (λ (x : ℕ). eqb (x % 2) 1) (ap (λ (x : ℕ). m / x) (pow-succ' 2 j) ∙ sym (div-div-eq-div-mul m 2 (2 ^ j)))

pub bit-zero : (m : ℕ) → bit_at m 0 ≡ eqb (m % 2) 1
bit-zero m = ap (λ (x : ℕ). eqb (x % 2) 1) (div-one m)

eqb-suc : (j i : ℕ) → eqb (suc j) (suc i) ≡ eqb j i
eqb-suc j i = by_cases (ℕ_discrete j i) (λ e. eq_yes (ap suc e) ∙ sym (eq_yes e)) (λ e. eq_no {a = suc j} {b = suc i} (omega arith) ∙ sym (eq_no e))

one_set : ind true ≡ ind false +ℤ ind true
unfolding ind
one_set = refl

none-set : ind false ≡ ind false +ℤ ind false
unfolding ind
none-set = refl

-- the lowest digit is set
low_odd : (k m : ℕ) → m % 2 ≡ 1 → Lows (suc k) m 0
low_odd k m e =
    let half : (m - 1) / 2 ≡ m / 2 = omega arith in
    let even : (m - 1) % 2 ≡ 0 = omega arith in
    record {
      within = omega arith;
      some = omega arith;
      bits = at half;
      fewer = omega (arith, ones_step m, ones_step (m - 1), ap ones half);
      off = and_step m (m - 1) ∙ ap₂ (λ (x y : ℕ). x * 2 + y) (ap (bit_and (m / 2)) half ∙ and_self (m / 2)) (ap (min (m % 2)) even ∙ min-zero (m % 2)) ∙ omega arith;
    }
  where
    at : (m - 1) / 2 ≡ m / 2 → (j : ℕ) → ind (bit_at m j) ≡ ind (bit_at (m - 1) j) +ℤ ind (eqb j 0)
    at half zero = ap ind (bit-zero m ∙ eq_yes e) ∙ one_set ∙ sym (ap (λ b. ind b +ℤ ind (eqb 0 0)) (bit-zero (m - 1) ∙ eq_no {a = (m - 1) % 2} {b = 1} (omega arith)))
    at half (suc j) = ap ind (bit-suc m j ∙ ap (λ (x : ℕ). bit_at x j) (sym half) ∙ sym (bit-suc (m - 1) j)) ∙ sym (ap (λ y. ind (bit_at (m - 1) (suc j)) +ℤ y) (ind-no (eq_no {a = suc j} {b = 0} (omega arith))) ∙ +ℤ_idr (ind (bit_at (m - 1) (suc j))))

-- it is not: the law of the others
low-even : (k m i : ℕ) → m % 2 ≡ 0 → Lows k (m / 2) i → Lows (suc k) m (suc i)
low-even k m i e h =
    let twice : 2 ^ suc i ≡ 2 ^ i * 2 = pow-suc 2 i in
    let half : (m - 2 ^ suc i) / 2 ≡ m / 2 - 2 ^ i = omega (arith, twice, h.some) in
    let less : (m - 1) / 2 ≡ m / 2 - 1 = omega (arith, h.some, pow_pos i) in
    record {
      within = omega (arith, h.within);
      some = omega (arith, twice, h.some);
      bits = at twice half;
      fewer = omega (arith, ones_step m, ones_step (m - 2 ^ suc i), ap ones half, h.fewer, h.some, twice);
      off = and_step m (m - 1) ∙ ap₂ (λ (x y : ℕ). x * 2 + y) (ap (bit_and (m / 2)) less ∙ h.off) (ap (λ (x : ℕ). min x ((m - 1) % 2)) e ∙ zero-min ((m - 1) % 2)) ∙ omega (arith, twice, h.some);
    }
  where
    at : 2 ^ suc i ≡ 2 ^ i * 2 → (m - 2 ^ suc i) / 2 ≡ m / 2 - 2 ^ i → (j : ℕ) → ind (bit_at m j) ≡ ind (bit_at (m - 2 ^ suc i) j) +ℤ ind (eqb j (suc i))
    at twice half zero = ap ind (bit-zero m ∙ eq_no {a = m % 2} {b = 1} (omega arith)) ∙ none-set
        ∙ sym (ap₂ (λ b c. ind b +ℤ ind c) (bit-zero (m - 2 ^ suc i) ∙ eq_no {a = (m - 2 ^ suc i) % 2} {b = 1} (omega (arith, twice, h.some))) (eq_no {a = 0} {b = suc i} (omega arith)))
    at twice half (suc j) = ap ind (bit-suc m j) ∙ h.bits j
        ∙ ap₂ (λ b c. ind b +ℤ ind c) (ap (λ (x : ℕ). bit_at x j) (sym half) ∙ sym (bit-suc (m - 2 ^ suc i) j)) (sym (eqb-suc j i))

-- what the count of zeros says
pub low_trailing : (k m : ℕ) → m ≢ 0 → m < 2 ^ k → Lows k m (count_trailing_zeros k m)
unfolding count_trailing_zeros
low_trailing zero m n h = absurd (n (omega arith))
low_trailing (suc k) m n h = let ih : m / 2 ≢ 0 → m / 2 < 2 ^ k → Lows k (m / 2) (count_trailing_zeros k (m / 2)) = low_trailing k (m / 2) in
    by_cases (ℕ_discrete (m % 2) 0)
    (λ e. rw e (low-even k m (count_trailing_zeros k (m / 2)) e (ih (omega arith) (omega (arith, pow-suc 2 k)))))
    (λ e. let o : m % 2 ≡ 1 = omega arith in rw o (low_odd k m o))
