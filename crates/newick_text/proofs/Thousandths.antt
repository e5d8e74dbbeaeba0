-- Thousandths that were written are a length, and it is read back: `text-length` and `text-value`, for every number below 2^64 in magnitude.
use mathlib.Core.Path.{◌≡◌, refl, sym, ◌∙◌, ap, ap₂}
use mathlib.Core.Bool.{Bool, true, false, cond, ◌&&◌}
use mathlib.Core.List.{List, [], ◌∷◌, ◌++◌, append_assoc}
use Prim.Native.Nat.{ℕ, zero, suc, ◌+◌, ◌-◌, ◌*◌, ◌/◌, ◌%◌, ◌^◌, ◌≤◌, ◌<◌}
use native.Mathlib.Decide.{dec_lt}
use native.Mathlib.Omega.{arith}
use borrow.Author.Tests.{le-leb, eq-eqb, ne_eqb}
use lib.Dec.{eqb, ltb}
use lib.IntN.{ℤ, pos, negsuc, nat_abs}
use lib.ListN.{length, get_or, take, drop, length-append}
use lib.Seq.{take_at, drop_at, drop-append-add, get_or-append-add}
use Rattle.exact.proofs.Decide.{by_cases}
use Rattle.digits.specs.Digits.{run, is_digit, number_from}
use Rattle.digits.proofs.Reading.{is-digit-of}
use Rattle.writing.specs.Text.{digits, decimal}
use Rattle.writing.proofs.Decimals.{digits-small, digits_step, decimal-small, decimal-some}
use Rattle.newick_text.specs.Length.{sign_size, whole_size, point_at, magnitude_of, length_size, length_there, is_length, value_of, thousandths, length_text}
use Rattle.newick_text.proofs.Runs.{number_append}

-- ---- digits that were written
digit-yes : (v : ℕ) → v < 10 → is_digit (48 + v) ≡ true
digit-yes v h = ap₂ (λ (a b : Bool). a && b) (le-leb 48 (48 + v) (omega arith)) (le-leb (48 + v) 57 (omega arith))

run-digit : (v : ℕ) (l : List ℕ) → v < 10 → run is_digit ((48 + v) ∷ l) ≡ suc (run is_digit l)
unfolding run
run-digit v l h = ap (λ (q : Bool). cond q (suc (run is_digit l)) 0) (digit-yes v h)

number-digit : (n v : ℕ) (l : List ℕ) → v < 10 → number_from n ((48 + v) ∷ l) ≡ number_from (n * 10 + v) l
unfolding number_from
number-digit n v l h =
    let q : 48 + v - 48 ≡ v = omega arith in
    ap (λ (x : ℕ). number_from (n * 10 + x) l) (sym (is-digit-of (48 + v) (digit-yes v h)) ∙ q)

run_nil : run is_digit [] ≡ 0
unfolding run
run_nil = refl

number-none : (n : ℕ) → number_from n [] ≡ n
unfolding number_from
number-none n = refl

-- every byte is a digit
digits-run : (k n : ℕ) (l : List ℕ) → run is_digit (digits k n ++ l) ≡ length (digits k n) + run is_digit l
unfolding digits
digits-run zero n l = let z : run is_digit l ≡ 0 + run is_digit l = omega arith in z
digits-run (suc k) n l =
    let ih : run is_digit (digits k (n / 10) ++ ((48 + n % 10) ∷ l)) ≡ length (digits k (n / 10)) + run is_digit ((48 + n % 10) ∷ l) = digits-run k (n / 10) ((48 + n % 10) ∷ l) in
    by_cases (dec_lt n 10)
    (λ lt. rw (digits-small k n lt) (run-digit n l lt ∙ omega arith))
    (λ ge. let h : 10 ≤ n = omega arith in
    rw (digits_step k n h) (simp (append_assoc, length-append) (ih ∙ omega (arith, run-digit (n % 10) l (omega arith)))))

-- their number is n
digits_number : (k n : ℕ) → n < 10 ^ k → number_from 0 (digits k n) ≡ n
unfolding digits
digits_number zero n h = number-none 0 ∙ omega arith
digits_number (suc k) n h =
    let ih : n / 10 < 10 ^ k → number_from 0 (digits k (n / 10)) ≡ n / 10 = digits_number k (n / 10) in
    by_cases (dec_lt n 10)
    (λ lt. rw (digits-small k n lt) (number-digit 0 n [] lt ∙ number-none (0 * 10 + n) ∙ omega arith))
    (λ ge. let g : 10 ≤ n = omega arith in
    let e = ih (omega arith) in
    rw (digits_step k n g, number_append, e) (number-digit (n / 10) (n % 10) [] (omega arith) ∙ number-none (n / 10 * 10 + n % 10) ∙ omega arith))

-- the first is above 0 where n is
digits-lead : (k n : ℕ) (l : List ℕ) → 1 ≤ n → n < 10 ^ k → 48 < get_or (digits k n ++ l) 0 0
unfolding digits
digits-lead zero n l g h = absurd (omega arith)
digits-lead (suc k) n l g h =
    let ih : 1 ≤ n / 10 → n / 10 < 10 ^ k → 48 < get_or (digits k (n / 10) ++ ((48 + n % 10) ∷ l)) 0 0 = digits-lead k (n / 10) ((48 + n % 10) ∷ l) in
    by_cases (dec_lt n 10)
    (λ lt. rw (digits-small k n lt) (omega arith))
    (λ ge. let i : 10 ≤ n = omega arith in rw (digits_step k n i) (simp append_assoc (ih (omega arith) (omega arith))))

-- ---- a whole number with a point and three places behind it
module _ (m a b c : ℕ) (large : m < 10 ^ 20) (ha : a < 10) (hb : b < 10) (hc : c < 10) where
  abbrev places : List ℕ
  places = (48 + a) ∷ (48 + b) ∷ (48 + c) ∷ []

  abbrev word : List ℕ
  word = decimal m ++ (46 ∷ places)

  lead_high : 48 ≤ get_or word 0 0
  lead_high = by_cases (dec_lt m 1)
      (λ z. rw (decimal-small m (omega arith)) (omega arith))
      (λ z. omega (arith, digits-lead 20 m (46 ∷ places) (omega arith) large))

  run_point : (l : List ℕ) → run is_digit (46 ∷ l) ≡ 0
  unfolding run
  run_point l = refl

  run-places : run is_digit places ≡ 3
  run-places = simp (run-digit a ((48 + b) ∷ (48 + c) ∷ []) ha, run-digit b ((48 + c) ∷ []) hb, run-digit c [] hc, run_nil)

  places-number : (n : ℕ) → number_from n places ≡ ((n * 10 + a) * 10 + b) * 10 + c
  places-number n = number-digit n a ((48 + b) ∷ (48 + c) ∷ []) ha
      ∙ number-digit (n * 10 + a) b ((48 + c) ∷ []) hb
      ∙ number-digit ((n * 10 + a) * 10 + b) c [] hc
      ∙ number-none (((n * 10 + a) * 10 + b) * 10 + c)

  whole_run : run is_digit word ≡ length (decimal m)
  whole_run = digits-run 20 m (46 ∷ places) ∙ omega (arith, run_point places)

  no-needless : ltb 1 (length (decimal m)) && eqb (get_or word 0 0) 48 ≡ false
  no-needless = by_cases (dec_lt m 10)
      (λ z. rw (decimal-small m z) refl)
      (λ z. ap (λ (q : Bool). ltb 1 (length (decimal m)) && q) (ne_eqb (get_or word 0 0) 48 (λ e. omega (arith, e, digits-lead 20 m (46 ∷ places) (omega arith) large)))
      ∙ and-false (ltb 1 (length (decimal m))))
    where
      and-false : (q : Bool) → q && false ≡ false
      and-false true = refl
      and-false false = refl

  -- behind s bytes before it: none, or a minus
  module _ (s : List ℕ) (sign : ℕ) (here : length s ≡ sign) where
    abbrev signed : List ℕ
    signed = s ++ word

    module _ (is : sign_size signed ≡ sign) where
      whole_is : whole_size signed ≡ length (decimal m)
      whole_is = ap (λ (n : ℕ). run is_digit (drop n signed)) is ∙ ap (run is_digit) (drop_at s word sign here) ∙ whole_run

      point_is : point_at signed ≡ sign + length (decimal m)
      point_is = ap₂ (λ (x y : ℕ). x + y) is whole_is

      all-is : s ++ word ≡ (s ++ decimal m) ++ (46 ∷ places)
      all-is = sym (append_assoc s (decimal m) (46 ∷ places))

      front_length : length (s ++ decimal m) ≡ point_at signed
      front_length = length-append s (decimal m) ∙ omega (arith, here, point_is)

      lead_is : get_or signed (sign_size signed) 0 ≡ get_or word 0 0
      lead_is = let q : sign_size signed ≡ length s + 0 = omega (arith, is, here) in
          ap (λ (n : ℕ). get_or signed n 0) q ∙ get_or-append-add s word 0 0

      dot-is : get_or signed (point_at signed) 0 ≡ 46
      dot-is = let q : point_at signed ≡ length (s ++ decimal m) + 0 = omega (arith, front_length) in
          ap₂ (λ (l : List ℕ) (n : ℕ). get_or l n 0) all-is q ∙ get_or-append-add (s ++ decimal m) (46 ∷ places) 0 0

      places_are : drop (point_at signed + 1) signed ≡ places
      places_are = let q : point_at signed + 1 ≡ length (s ++ decimal m) + 1 = omega (arith, front_length) in
          ap₂ (λ (l : List ℕ) (n : ℕ). drop n l) all-is q ∙ drop-append-add (s ++ decimal m) (46 ∷ places) 1

      part-is : run is_digit (drop (point_at signed + 1) signed) ≡ 3
      part-is = ap (run is_digit) places_are ∙ run-places

      digits_are : take (whole_size signed) (drop (sign_size signed) signed) ≡ decimal m
      digits_are = ap₂ (λ (n : ℕ) (l : List ℕ). take n l) whole_is (ap (λ (n : ℕ). drop n signed) is ∙ drop_at s word sign here) ∙ take_at (decimal m) (46 ∷ places) (length (decimal m)) refl

      magnitude-is : magnitude_of signed ≡ ((m * 10 + a) * 10 + b) * 10 + c
      unfolding magnitude_of
      magnitude-is = ap₂ (λ (x y : List ℕ). number_from (number_from 0 x) y) digits_are (ap (take 3) places_are)
          ∙ ap (λ (n : ℕ). number_from n places) (digits_number 20 m large)
          ∙ places-number m

      -- a length, where a minus does not stand before zero
      length-is : eqb sign 1 && eqb (((m * 10 + a) * 10 + b) * 10 + c) 0 ≡ false → is_length signed ≡ true
      unfolding is_length length_there length_size
      length-is z = rw (magnitude-is, part-is, dot-is, lead_is, whole_is, is, no-needless, z, le-leb 1 (length (decimal m)) (decimal-some m))
          (eq-eqb (length signed) (sign + length (decimal m) + 4) (simp length-append (omega (arith, here))))

-- ---- thousandths
by_thousands : (n : ℕ) → ((n / 1000 * 10 + n / 100 % 10) * 10 + n / 10 % 10) * 10 + n % 10 ≡ n
by_thousands n =
    let i : n / 100 / 10 ≡ n / 1000 = omega arith in
    let j : n / 10 / 10 ≡ n / 100 = omega arith in
    omega arith

module _ (n : ℕ) (large : n < 2 ^ 64) where
  no_minus : eqb (get_or (thousandths n) 0 0) 45 ≡ false
  unfolding thousandths
  no_minus = ne_eqb (get_or (thousandths n) 0 0) 45 (λ e. omega (arith, e, lead_high (n / 1000) (n / 100 % 10) (n / 10 % 10) (n % 10) (omega arith) (omega arith) (omega arith) (omega arith)))

  module _ (s : List ℕ) (sign : ℕ) (here : length s ≡ sign) (is : sign_size (s ++ thousandths n) ≡ sign) where
    thousandths-length : eqb sign 1 && eqb n 0 ≡ false → is_length (s ++ thousandths n) ≡ true
    unfolding thousandths
    thousandths-length z = length-is (n / 1000) (n / 100 % 10) (n / 10 % 10) (n % 10) (omega arith) (omega arith) (omega arith) (omega arith) s sign here is
        (ap (λ (x : ℕ). eqb sign 1 && eqb x 0) (by_thousands n) ∙ z)

    thousandths-magnitude : magnitude_of (s ++ thousandths n) ≡ n
    unfolding thousandths
    thousandths-magnitude = magnitude-is (n / 1000) (n / 100 % 10) (n / 10 % 10) (n % 10) (omega arith) (omega arith) (omega arith) (omega arith) s sign here is
        ∙ by_thousands n

-- what is written is a length, and it is read back
pub text-length : (z : ℤ) → nat_abs z < 2 ^ 64 → is_length (length_text z) ≡ true
unfolding length_text
text-length (pos n) h = thousandths-length n h [] 0 refl (ap (λ (q : Bool). cond q 1 0) (no_minus n h)) refl
text-length (negsuc n) h = thousandths-length (suc n) h (45 ∷ []) 1 refl refl (ne_eqb (suc n) 0 (λ e. omega (arith, e)))

pub text-value : (z : ℤ) → nat_abs z < 2 ^ 64 → value_of (length_text z) ≡ z
unfolding length_text value_of
text-value (pos n) h = rw (thousandths-magnitude n h [] 0 refl (ap (λ (q : Bool). cond q 1 0) (no_minus n h)), no_minus n h)
text-value (negsuc n) h = rw (thousandths-magnitude (suc n) h (45 ∷ []) 1 refl refl)
