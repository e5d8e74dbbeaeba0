-- A run goes on byte by byte: what is left of it, added to where it has come, is where it ends. Cutting a number at every digit is
-- cutting it once (`cut_again`), so what is read on from a cut number is the whole number, cut.
use mathlib.Core.Path.{◌≡◌, refl, sym, ◌∙◌, ap}
use mathlib.Core.Bool.{Bool, true, false, cond, ◌&&◌, true≢false}
use mathlib.Core.List.{List, [], ◌∷◌}
use Prim.Native.Nat.{ℕ, zero, suc, ◌+◌, ◌-◌, ◌≤◌, ◌<◌, ◌*◌}
use native.Mathlib.Decide.{dec_lt}
use native.Mathlib.Numerals.{add-one}
use native.Mathlib.Omega.{arith}
use borrow.Author.Tests.{leb-true, le-leb, lt-leb}
use lib.Dec.{leb}
use Rattle.exact.proofs.Decide.{by_cases}
use lib.ListN.{length, get_or, take, drop, drop_of_length-le, get_or-eq_default}
use lib.Seq.{drop-cons, drop-nil, take-nil, slice, slice-cons, slice_empty}
use Rattle.digits.specs.Digits.{run, is_digit, digit_of, most, at_most, number_from}

-- ---- runs: one that began at `at` has come to `end`
pub record RunAt (p : ℕ → Bool) (s : List ℕ) (at end : ℕ) : Type 0 where
  pub within : end ≤ length s
  pub rest : end + run p (drop end s) ≡ at + run p (drop at s)

module _ (p : ℕ → Bool) (s : List ℕ) (at : ℕ) where
  pub run-start : at ≤ length s → RunAt p s at at
  run-start h = record { within = h; rest = refl }

  front : (k : ℕ) (b : Bool) → k < length s → p (get_or s k 0) ≡ b → run p (drop k s) ≡ cond b (suc (run p (drop (suc k) s))) 0
  unfolding run
  front k b h e = rw (drop-cons s k 0 h, e)

  pub run_more : (end : ℕ) → end < length s → p (get_or s end 0) ≡ true → RunAt p s at end → RunAt p s at (end + 1)
  run_more end h e t = rw add-one (record { within = h; rest = omega (arith, front end true h e, t.rest) })

  pub run-stop : (end : ℕ) → end < length s → p (get_or s end 0) ≡ false → RunAt p s at end → (end ≡ at + run p (drop at s)) × (end ≤ length s)
  run-stop end h e t = (omega (arith, front end false h e, t.rest), t.within)

  pub run_end : (end : ℕ) → length s ≤ end → RunAt p s at end → (end ≡ at + run p (drop at s)) × (end ≤ length s)
  unfolding run
  run_end end h t = (let z : run p (drop end s) ≡ 0 = ap (run p) (drop_of_length-le s h) in omega (arith, z, t.rest), t.within)

-- a byte that is not 0 is in the text
pub inside : (s : List ℕ) (k x : ℕ) → get_or s k 0 ≡ suc x → k < length s
inside s k x e = by_cases (dec_lt k (length s)) (λ l. l) (λ n. let z : length s ≤ k = omega arith in let q : 0 ≡ suc x = sym (get_or-eq_default s 0 z) ∙ e in absurd (omega (arith, q)))

-- ---- one digit
pub both_true : (a b : Bool) → (a && b) ≡ true → (a ≡ true) × (b ≡ true)
both_true true b h = (refl, h)
both_true false b h = (h, absurd (true≢false (sym h)))

digit-range : (x : ℕ) → is_digit x ≡ true → (48 ≤ x) × (x ≤ 57)
digit-range x e = let p = both_true (leb 48 x) (leb x 57) e in (leb-true 48 x p.0, leb-true x 57 p.1)

pub digit_low : (x : ℕ) → is_digit x ≡ true → 48 ≤ x
digit_low x e = (digit-range x e).0

pub is-digit-of : (x : ℕ) → is_digit x ≡ true → x - 48 ≡ digit_of x
is-digit-of x e = rw e

pub no-digit-of : (x : ℕ) → is_digit x ≡ false → 0 ≡ digit_of x
no-digit-of x e = rw e

pub digit-high : (x : ℕ) → digit_of x ≤ 9
digit-high x = go (is_digit x) refl
  where
    go : (b : Bool) → is_digit x ≡ b → digit_of x ≤ 9
    go true e = let p = digit-range x e in omega (arith, is-digit-of x e, p.0, p.1)
    go false e = omega (arith, no-digit-of x e)

-- ---- cutting
pub low-cut : (a : ℕ) → a ≤ most → at_most a ≡ a
low-cut a h = ap (λ (q : Bool). cond q a most) (le-leb a most h)

pub high_cut : (a : ℕ) → most < a → at_most a ≡ most
high_cut a h = ap (λ (q : Bool). cond q a most) (lt-leb a most h)

pub cut_most : (a : ℕ) → at_most a ≤ most
cut_most a = by_cases (dec_lt most a) (λ l. omega (arith, high_cut a l)) (λ l. omega (arith, low-cut a (omega arith)))

-- a digit behind a cut number
cut_on : (a d : ℕ) → at_most (at_most a * 10 + d) ≡ at_most (a * 10 + d)
cut_on a d = by_cases (dec_lt most a)
    (λ l. ap (λ (x : ℕ). at_most (x * 10 + d)) (high_cut a l) ∙ high_cut (most * 10 + d) (omega arith) ∙ sym (high_cut (a * 10 + d) (omega arith)))
    (λ l. ap (λ (x : ℕ). at_most (x * 10 + d)) (low-cut a (omega arith)))

-- two numbers that are cut alike are cut alike behind any digits
cut-alike : (l : List ℕ) (a b : ℕ) → at_most a ≡ at_most b → at_most (number_from a l) ≡ at_most (number_from b l)
unfolding number_from
cut-alike [] a b e = e
cut-alike (x ∷ xs) a b e = cut-alike xs (a * 10 + digit_of x) (b * 10 + digit_of x)
    (sym (cut_on a (digit_of x)) ∙ ap (λ (n : ℕ). at_most (n * 10 + digit_of x)) e ∙ cut_on b (digit_of x))

pub cut_again : (l : List ℕ) (a : ℕ) → at_most (number_from (at_most a) l) ≡ at_most (number_from a l)
cut_again l a = cut-alike l (at_most a) a (low-cut (at_most a) (cut_most a))

-- ---- a part of a text, by where it begins and how long it is
drop-take : (f t : ℕ) (l : List ℕ) → drop f (take t l) ≡ take (t - f) (drop f l)
drop-take zero t l = let q : t - 0 ≡ t = omega arith in rw q
drop-take (suc f) zero l = let q : 0 - suc f ≡ 0 = omega arith in rw q (drop-nil (suc f))
drop-take (suc f) (suc t) [] = sym (take-nil {A = ℕ} (suc t - suc f))
drop-take (suc f) (suc t) (x ∷ xs) = let ih = drop-take f t xs in let q : suc t - suc f ≡ t - f = omega arith in rw q ih

pub slice_is : (s : List ℕ) (f t : ℕ) → slice f t s ≡ take (t - f) (drop f s)
slice_is s f t = drop-take f t s

-- ---- a number: its digits before k are read
module _ (s : List ℕ) (a from to : ℕ) (h : to ≤ length s) where
  pub number-turn : (k all next : ℕ) → k < to → next ≡ at_most (all * 10 + digit_of (get_or s k 0)) → at_most (number_from all (slice k to s)) ≡ at_most (number_from a (slice from to s))
      → at_most (number_from next (slice (k + 1) to s)) ≡ at_most (number_from a (slice from to s))
  unfolding number_from
  number-turn k all next l e t = rw (add-one, e)
      (cut_again (slice (suc k) to s) (all * 10 + digit_of (get_or s k 0)) ∙ sym (ap (λ (m : List ℕ). at_most (number_from all m)) (slice-cons k to s 0 l h)) ∙ t)

  pub number-end : (k all : ℕ) → k ≤ to → to ≤ k → all ≤ most → at_most (number_from all (slice k to s)) ≡ at_most (number_from a (slice from to s)) → all ≡ at_most (number_from a (slice from to s))
  unfolding number_from
  number-end k all l m b t = let e : k ≡ to = omega arith in
      sym (low-cut all b) ∙ sym (ap (λ (x : List ℕ). at_most (number_from all x)) (ap (λ (x : ℕ). slice x to s) e ∙ slice_empty to s)) ∙ t
