-- What a loop over a table shows of `some`, and what its answer tells.
use mathlib.Core.Path.{◌≡◌, refl, sym, ◌∙◌, ap, ap₂}
use mathlib.Core.Bool.{Bool, true, false, ◌||◌, cond, true≢false}
use Prim.Native.Nat.{ℕ, zero, suc, ◌+◌, ◌<◌, ◌≤◌}
use native.Mathlib.Decide.{ℕ_discrete}
use native.Mathlib.Omega.{arith}
use borrow.Author.Tests.{lt-ltb, le-ltb}
use lib.Dec.{ltb}
use Rattle.verdict.specs.Table.{some, first, count}

or_right : (b : Bool) → (b || true) ≡ true
or_right true = refl
or_right false = refl

-- a fault that was met
pub some-yes : (n : ℕ) (p : ℕ → Bool) (i : ℕ) → i < n → p i ≡ true → some n p ≡ true
unfolding some
some-yes zero p i h e = absurd (omega arith)
some-yes (suc n) p i h e = let ih : i < n → some n p ≡ true = λ l. some-yes n p i l e in go (ℕ_discrete i n) ih
  where
    go : Dec (i ≡ n) → (i < n → some n p ≡ true) → (some n p || p n) ≡ true
    go (yes q) ih = rw (ap p (sym q) ∙ e) (or_right (some n p))
    go (no q) ih = rw (ih (omega arith))

-- none was
pub some-no : (n : ℕ) (p : ℕ → Bool) → ((i : ℕ) → i < n → p i ≡ false) → some n p ≡ false
unfolding some
some-no zero p h = refl
some-no (suc n) p h = rw (some-no n p (λ i l. h i (omega arith)), h n (omega arith))

-- where none is at fault, each passes
pub some-none : (n : ℕ) (p : ℕ → Bool) → some n p ≡ false → (i : ℕ) → i < n → p i ≡ false
some-none n p e i h = go (p i) refl
  where
    go : (b : Bool) → p i ≡ b → p i ≡ false
    go true q = q ∙ sym (some-yes n p i h q) ∙ e
    go false q = q

-- tests that agree below n have one answer
pub some_cong : (n : ℕ) (p q : ℕ → Bool) → ((i : ℕ) → i < n → p i ≡ q i) → some n p ≡ some n q
unfolding some
some_cong zero p q h = refl
some_cong (suc n) p q h = ap₂ ◌||◌ (some_cong n p q (λ i l. h i (omega arith))) (h n (omega arith))

-- ---- the lowest at fault
-- none is exactly where the lowest is n
pub first-none : (n : ℕ) (p : ℕ → Bool) → some n p ≡ false → first n p ≡ n
unfolding some first
first-none zero p e = refl
first-none (suc n) p e = let q = or_split (some n p) (p n) e in rw (q.0, q.1)
  where
    or_split : (a b : Bool) → (a || b) ≡ false → (a ≡ false) × (b ≡ false)
    or_split true b e = absurd (true≢false e)
    or_split false b e = (refl, e)

-- one below which none is at fault is the lowest
pub first-is : (n : ℕ) (p : ℕ → Bool) (i : ℕ) → i < n → p i ≡ true → ((k : ℕ) → k < i → p k ≡ false) → first n p ≡ i
unfolding first
first-is zero p i h e f = absurd (omega arith)
first-is (suc n) p i h e f = let ih : i < n → first n p ≡ i = λ l. first-is n p i l e f in go (ℕ_discrete i n) ih
  where
    go : Dec (i ≡ n) → (i < n → first n p ≡ i) → cond (some n p) (first n p) (cond (p n) n (suc n)) ≡ i
    go (yes q) ih = rw (some-no n p (λ k l. f k (omega arith)), ap p (sym q) ∙ e) (sym q)
    go (no q) ih = rw (some-yes n p i (omega arith) e) (ih (omega arith))

-- where some is at fault the lowest is below n, is at fault, and none below it is
pub record Lowest (n : ℕ) (p : ℕ → Bool) : Type 0 where
  pub below : first n p < n
  pub fault : p (first n p) ≡ true
  pub rest : (k : ℕ) → k < first n p → p k ≡ false

pub lowest : (n : ℕ) (p : ℕ → Bool) → some n p ≡ true → Lowest n p
unfolding some first
lowest zero p e = absurd (true≢false (sym e))
lowest (suc n) p e = let ih : some n p ≡ true → Lowest n p = lowest n p in go (some n p) refl ih
  where
    go : (b : Bool) → some n p ≡ b → (some n p ≡ true → Lowest n p) → Lowest (suc n) p
    go true q ih = let l = ih q in let s : first (suc n) p ≡ first n p = rw q in
        record { below = omega (arith, s, l.below); fault = ap p s ∙ l.fault; rest = λ k h. l.rest k (omega (arith, s)) }
    go false q ih = let m : p n ≡ true = sym (ap (λ b. b || p n) q) ∙ e in let s : first (suc n) p ≡ n = rw (q, m) in
        record { below = omega (arith, s); fault = ap p s ∙ m; rest = λ k h. some-none n p q k (omega (arith, s)) }

pub some_first : (n : ℕ) (p : ℕ → Bool) → some n p ≡ ltb (first n p) n
some_first n p = go (some n p) refl
  where
    go : (b : Bool) → some n p ≡ b → some n p ≡ ltb (first n p) n
    go true q = q ∙ sym (lt-ltb (first n p) n (lowest n p q).below)
    go false q = q ∙ sym (le-ltb (first n p) n (omega (arith, first-none n p q)))

-- the lowest is n or more exactly where none is at fault
pub first_past : (n : ℕ) (p : ℕ → Bool) → n ≤ first n p → (i : ℕ) → i < n → p i ≡ false
first_past n p h = some-none n p (some_first n p ∙ le-ltb (first n p) n h)

pub past_first : (n : ℕ) (p : ℕ → Bool) → ((i : ℕ) → i < n → p i ≡ false) → first n p ≡ n
past_first n p h = first-none n p (some-no n p h)

pub first_cong : (n : ℕ) (p q : ℕ → Bool) → ((i : ℕ) → i < n → p i ≡ q i) → first n p ≡ first n q
unfolding first
first_cong zero p q h = refl
first_cong (suc n) p q h = rw (some_cong n p q (λ i l. h i (omega arith)), first_cong n p q (λ i l. h i (omega arith)), h n (omega arith))

pub count-zero : (p : ℕ → Bool) → count 0 p ≡ 0
unfolding count
count-zero p = refl

pub count-suc : (n : ℕ) (p : ℕ → Bool) → count (suc n) p ≡ count n p + cond (p n) 1 0
unfolding count
count-suc n p = refl

pub count-le : (n : ℕ) (p : ℕ → Bool) → count n p ≤ n
unfolding count
count-le zero p = omega arith
count-le (suc n) p = let ih = count-le n p in go (p n) ih
  where
    go : (b : Bool) → count n p ≤ n → count n p + cond b 1 0 ≤ suc n
    go true h = omega arith
    go false h = omega arith
