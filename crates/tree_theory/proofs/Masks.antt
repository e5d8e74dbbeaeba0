-- Masks as numbers. The idea: `mask (suc n) b` is the digit `b n` at place n before the n digits of `mask n b`, so each law about n
-- digits is an induction that splits off the highest.
use mathlib.Core.Path.{◌≡◌, refl, sym, ap, ap₂, ◌∙◌}
use mathlib.Core.Bool.{Bool, true, false, ◌||◌, ◌&&◌, cond, not}
use Prim.Native.Nat.{ℕ, zero, suc, ◌+◌, ◌-◌, ◌*◌, ◌/◌, ◌%◌, ◌^◌, ◌<◌, ◌≤◌}
use native.Mathlib.Decide.{ℕ_discrete, dec_lt}
use native.Mathlib.Nat.{pow-suc, one-mul, zero-mul, zero-add, add-zero, add_comm, add-mul-div_right, mul_assoc, mul-add-mod_self_right, div-eq_of_lt}
use native.Mathlib.Omega.{arith}
use borrow.Author.Tests.{lt-ltb, le-ltb, eq-eqb, ne_eqb}
use lib.Dec.{eqb, ltb}
use lib.Bits.{bit_and, bit_or, and_block, or_block}
use lib.Count.{ones, ones_cat}
use lib.Pow.{pow_pos, pow-add, high, shl_exact, pow_mono}
use Rattle.exact.proofs.Decide.{by_cases}
use Rattle.verdict.specs.Table.{count}
use Rattle.verdict.proofs.Table.{count-zero, count-suc}
use Rattle.tree_theory.specs.Chain.{below, parts}
use Rattle.tree_theory.specs.Cluster.{mask, bit_at, cluster}

pub mask-zero : (b : ℕ → Bool) → mask 0 b ≡ 0
unfolding mask
mask-zero b = refl

pub mask-suc : (n : ℕ) (b : ℕ → Bool) → mask (suc n) b ≡ mask n b + cond (b n) (2 ^ n) 0
unfolding mask
mask-suc n b = refl

-- the digit of a test
abbrev pub digit : Bool → ℕ
digit b = cond b 1 0

digit_shift : (b : Bool) (n : ℕ) → cond b (2 ^ n) 0 ≡ digit b * 2 ^ n
digit_shift true n = sym (one-mul (2 ^ n))
digit_shift false n = sym (zero-mul (2 ^ n))

-- the highest digit split off
pub mask-top : (n : ℕ) (b : ℕ → Bool) → mask (suc n) b ≡ digit (b n) * 2 ^ n + mask n b
mask-top n b = mask-suc n b ∙ ap (λ x. mask n b + x) (digit_shift (b n) n) ∙ add_comm (mask n b) (digit (b n) * 2 ^ n)

pub mask_cong : (n : ℕ) (a b : ℕ → Bool) → ((i : ℕ) → i < n → a i ≡ b i) → mask n a ≡ mask n b
mask_cong zero a b h = mask-zero a ∙ sym (mask-zero b)
mask_cong (suc n) a b h =
    mask-suc n a ∙ ap₂ (λ x y. x + cond y (2 ^ n) 0) (mask_cong n a b (λ i l. h i (omega arith))) (h n (omega arith)) ∙ sym (mask-suc n b)

pub mask_lt : (n : ℕ) (b : ℕ → Bool) → mask n b < 2 ^ n
mask_lt zero b = omega (arith, mask-zero b)
mask_lt (suc n) b = omega (arith, mask_lt n b, mask-suc n b, pow-suc 2 n, at_most (b n))
  where
    at_most : (x : Bool) → cond x (2 ^ n) 0 ≤ 2 ^ n
    at_most true = omega arith
    at_most false = omega arith

-- ---- what two masks have in common
and-digits : (x y : Bool) → bit_and (digit x) (digit y) ≡ digit (x && y)
and-digits true true = refl
and-digits true false = refl
and-digits false true = refl
and-digits false false = refl

pub mask-and : (n : ℕ) (a b : ℕ → Bool) → bit_and (mask n a) (mask n b) ≡ mask n (λ i. a i && b i)
mask-and zero a b = ap₂ bit_and (mask-zero a) (mask-zero b) ∙ sym (mask-zero _)
mask-and (suc n) a b =
    ap₂ bit_and (mask-top n a) (mask-top n b) ∙ and_block n (digit (a n)) (digit (b n)) (mask n a) (mask n b) (mask_lt n a) (mask_lt n b)
    ∙ ap₂ (λ x y. x * 2 ^ n + y) (and-digits (a n) (b n)) (mask-and n a b) ∙ sym (mask-top n (λ i. a i && b i))

-- ---- reading a digit
digit_at : (d : Bool) → eqb (digit d % 2) 1 ≡ d
digit_at true = refl
digit_at false = refl

-- digits from place n on do not show at place i below n
below_top : (n i a r : ℕ) → i < n → (a * 2 ^ n + r) / 2 ^ i % 2 ≡ r / 2 ^ i % 2
below_top n i a r h =
    ap (λ x. x / 2 ^ i % 2) (ap (λ x. a * x + r) shift ∙ regroup) ∙ ap (λ x. x % 2) (add-mul-div_right r (a * 2 ^ (n - suc i) * 2) (pow_pos i))
    ∙ ap (λ x. x % 2) (add_comm (r / 2 ^ i) (a * 2 ^ (n - suc i) * 2)) ∙ mul-add-mod_self_right (a * 2 ^ (n - suc i)) 2 (r / 2 ^ i)
  where
    shift : 2 ^ n ≡ 2 ^ (n - suc i) * 2 * 2 ^ i
    shift = let e : n ≡ suc (n - suc i) + i = omega arith in ap (λ k. 2 ^ k) e ∙ pow-add 2 (suc (n - suc i)) i ∙ ap (λ x. x * 2 ^ i) (pow-suc 2 (n - suc i))

    regroup : a * (2 ^ (n - suc i) * 2 * 2 ^ i) + r ≡ r + a * 2 ^ (n - suc i) * 2 * 2 ^ i
    regroup = add_comm _ r ∙ ap (λ x. r + x) (sym (mul_assoc a (2 ^ (n - suc i) * 2) (2 ^ i)) ∙ ap (λ x. x * 2 ^ i) (sym (mul_assoc a (2 ^ (n - suc i)) 2)))

pub mask-bit : (n : ℕ) (b : ℕ → Bool) (i : ℕ) → i < n → bit_at (mask n b) i ≡ b i
mask-bit zero b i h = absurd (omega arith)
mask-bit (suc n) b i h =
    let ih : i < n → bit_at (mask n b) i ≡ b i = λ l. mask-bit n b i l in
    by_cases (dec_lt i n)
    (λ l. ap (λ x. eqb (x / 2 ^ i % 2) 1) (mask-top n b) ∙ ap (λ x. eqb x 1) (below_top n i (digit (b n)) (mask n b) l) ∙ ih l)
    (λ l. let e : i ≡ n = omega arith in
    rw e (ap (λ x. eqb (x / 2 ^ n % 2) 1) (mask-top n b) ∙ ap (λ x. eqb (x % 2) 1) (high (digit (b n)) n (mask_lt n b)) ∙ digit_at (b n)))

-- past the width there is no digit
pub bit_past : (k m i : ℕ) → m < 2 ^ k → k ≤ i → bit_at m i ≡ false
bit_past k m i h l = let g : m < 2 ^ i = omega (arith, pow_mono l) in ap (λ x. eqb (x % 2) 1) (div-eq_of_lt g)

-- ---- one strain alone, none, and two masks together
pub mask-none : (n : ℕ) (b : ℕ → Bool) → ((i : ℕ) → i < n → b i ≡ false) → mask n b ≡ 0
mask-none zero b h = mask-zero b
mask-none (suc n) b h = mask-suc n b ∙ ap₂ (λ x y. x + cond y (2 ^ n) 0) (mask-none n b (λ i l. h i (omega arith))) (h n (omega arith))

pub mask_one : (n w : ℕ) → mask n (λ i. eqb i w) ≡ cond (ltb w n) (2 ^ w) 0
mask_one zero w = mask-zero _ ∙ sym (ap (λ b. cond b (2 ^ w) 0) (le-ltb w 0 (omega arith)))
mask_one (suc n) w =
    let ih = mask_one n w in
    mask-suc n (λ i. eqb i w) ∙ by_cases (ℕ_discrete n w)
    (λ e. rw (ih, eq-eqb n w e, le-ltb w n (omega arith), lt-ltb w (suc n) (omega arith)) (zero-add (2 ^ n) ∙ ap (λ k. 2 ^ k) e))
    (λ e. rw (ih, ne_eqb n w e) (by_cases (dec_lt w n)
    (λ l. rw (lt-ltb w n l, lt-ltb w (suc n) (omega arith)) (add-zero (2 ^ w)))
    (λ l. rw (le-ltb w n (omega arith), le-ltb w (suc n) (omega arith)))))

or_digits : (x y : Bool) → bit_or (digit x) (digit y) ≡ digit (x || y)
or_digits true true = refl
or_digits true false = refl
or_digits false true = refl
or_digits false false = refl

pub mask_or : (n : ℕ) (a b : ℕ → Bool) → bit_or (mask n a) (mask n b) ≡ mask n (λ i. a i || b i)
mask_or zero a b = ap₂ bit_or (mask-zero a) (mask-zero b) ∙ sym (mask-zero _)
mask_or (suc n) a b =
    ap₂ bit_or (mask-top n a) (mask-top n b) ∙ or_block n (digit (a n)) (digit (b n)) (mask n a) (mask n b) (mask_lt n a) (mask_lt n b)
    ∙ ap₂ (λ x y. x * 2 ^ n + y) (or_digits (a n) (b n)) (mask_or n a b) ∙ sym (mask-top n (λ i. a i || b i))

-- ---- a mask's size: how many digits are set
ones-digit : (x : Bool) → ones (digit x) ≡ digit x
unfolding ones
ones-digit true = refl
ones-digit false = refl

pub mask-ones : (n : ℕ) (b : ℕ → Bool) → ones (mask n b) ≡ count n b
mask-ones zero b = ap ones (mask-zero b) ∙ ones-digit false ∙ sym (count-zero b)
mask-ones (suc n) b =
    ap ones (mask-top n b) ∙ ones_cat n (digit (b n)) (mask n b) (mask_lt n b) ∙ ap₂ ◌+◌ (ones-digit (b n)) (mask-ones n b)
    ∙ add_comm (digit (b n)) (count n b) ∙ sym (count-suc n b)

-- two masks without a digit in common
pub masks-apart : (n : ℕ) (a b : ℕ → Bool) → ((i : ℕ) → a i ≡ true → b i ≡ true → ⊥) → ones (mask n a) + ones (mask n b) ≤ n
masks-apart n a b h = omega (arith, mask-ones n a, mask-ones n b, counts n)
  where
    one : (x y : Bool) → (x ≡ true → y ≡ true → ⊥) → cond x 1 0 + cond y 1 0 ≤ 1
    one true true k = absurd (k refl refl)
    one true false k = omega arith
    one false true k = omega arith
    one false false k = omega arith

    counts : (k : ℕ) → count k a + count k b ≤ k
    counts zero = omega (arith, count-zero a, count-zero b)
    counts (suc k) = omega (arith, counts k, count-suc k a, count-suc k b, one (a k) (b k) (h k))

-- what `1u64 << i` computes
pub shl_one : (i : ℕ) → i < 64 → (1 * 2 ^ i) % 2 ^ 64 ≡ 2 ^ i
shl_one i h = shl_exact {a = 1} 1 i 64 (omega arith) (omega arith) ∙ one-mul (2 ^ i)

-- ---- clusters: an edge parts two strains where its cluster has exactly one of them
module _ (N : ℕ) (par : ℕ → ℕ) (v : ℕ) where
  pub cluster-has : (i : ℕ) → i < N → bit_at (cluster N par v) i ≡ below par i v
  cluster-has i h = mask-bit N (λ k. below par k v) i h

  pub cluster-parts : (i j : ℕ) → i < N → j < N
      → cond (bit_at (cluster N par v) i) (not (bit_at (cluster N par v) j)) (bit_at (cluster N par v) j) ≡ parts par v i j
  unfolding parts
  cluster-parts i j h l = ap₂ (λ x y. cond x (not y) y) (cluster-has i h) (cluster-has j l)

  pub cluster-size : ones (cluster N par v) ≡ count N (λ i. below par i v)
  cluster-size = mask-ones N (λ i. below par i v)
