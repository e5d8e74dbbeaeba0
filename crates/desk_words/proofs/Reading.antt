-- The first word from a place on, by positions: it is the letters behind the blanks (`first_word`), behind it stand the
-- others (`words-behind`), and there is none exactly where no letter stands there (`none_left`). Then what is read as a
-- number: of the letters at a place (`no-digits`, `word-goes-on`, `all_digits`), of a word (`number_read`,
-- `number-from`, `number_found`), of a word that may have a minus (`minus-read`, `plain-read`, `minus-from`,
-- `plain-from`).
use mathlib.Core.Path.{◌≡◌, refl, sym, ◌∙◌, ap, ap₂, subst}
use mathlib.Core.Bool.{Bool, true, false, true≢false}
use mathlib.Core.List.{List, [], ◌∷◌}
use Prim.Native.Nat.{ℕ, zero, suc, ◌+◌, ◌-◌, ◌≤◌, ◌<◌}
use native.Mathlib.Numerals.{add-one}
use native.Mathlib.Omega.{arith}
use native.Mathlib.Decide.{dec_lt}
use borrow.Author.Tests.{eq-eqb, ne_eqb, eqb-true, eqb-false}
use lib.Dec.{eqb}
use lib.IntN.{ℤ, pos, neg_ℤ}
use lib.ListN.{length, get_or, take, drop}
use lib.Seq.{slice, drop-drop, drop-cons, get_or-take, get_or-drop}
use Rattle.digits.specs.Digits.{run, is_blank, is_digit, at_most, number_from}
use Rattle.exact.proofs.Decide.{by_cases}
use Rattle.lengths.specs.Limits.{max_numerator}
use Rattle.digits.proofs.Reading.{slice_is, inside, low-cut, high_cut}
use Rattle.desk_text.specs.Words.{is_letter, word_over, words, is_number, value_of, is_signed, signed_of}
use Rattle.desk_text.specs.Meaning.{word_at, no_more}
use Rattle.desk_text.specs.Fields.{cut_to, cut_magnitude, cut_numerator}
use Rattle.desk_text.proofs.Cutting.{cut_high}
use Rattle.desk_text.proofs.Splitting.{words-past, past-over, over_none, letters-more, words-first, digits-end-word, number-none, number-some}
use Rattle.desk_words.specs.Reads.{words_at, start_at, end_at, letters_at, ReadAs, ReadFrom, DigitsRead, NumberRead, with_sign, signed, SignedRead}
use Rattle.desk_words.specs.declared.Parsed.{Parsed}
use Rattle.std.specs.Prelude.{Option, Some, None, ok_or, Result, Ok, Err}
use Rattle.std.specs.Result.{result_ok}

module _ (s : List ℕ) (at : ℕ) where
  -- the line behind the blanks
  abbrev front : List ℕ
  front = drop (start_at s at) s

  front-is : front ≡ drop (run is_blank (drop at s)) (drop at s)
  front-is = sym (drop-drop (run is_blank (drop at s)) at s)

  same-words : words front ≡ words_at s at
  same-words = ap words front-is ∙ words-past (drop at s)

  over-is : word_over front ≡ eqb (length front) 0
  over-is = subst (λ (l : List ℕ). word_over l ≡ eqb (length l) 0) (sym front-is) (past-over (drop at s))

  behind-is : drop (run is_letter front) front ≡ drop (end_at s at) s
  behind-is = drop-drop (run is_letter front) (start_at s at) s

  -- no word is left, or one is
  empty-words : (l : List ℕ) → length l ≡ 0 → words l ≡ []
  unfolding words
  empty-words [] e = refl
  empty-words (x ∷ xs) e = absurd (omega (arith, e))

  module _ (over : word_over front ≡ true) where
    none-there : words_at s at ≡ []
    none-there = sym same-words ∙ empty-words front (eqb-true (length front) 0 (sym over-is ∙ over))

    no-letters : run is_letter front ≡ 0
    no-letters = over_none front over

  some-there : word_over front ≡ false → words_at s at ≡ letters_at s (start_at s at) ∷ words_at s (end_at s at)
  some-there e = sym same-words ∙ words-first front e ∙ ap (λ (l : List ℕ). letters_at s (start_at s at) ∷ words l) behind-is

  some-letters : word_over front ≡ false → 0 < run is_letter front
  some-letters e = go front e
    where
      go : (l : List ℕ) → word_over l ≡ false → 0 < run is_letter l
      go [] e = absurd (true≢false e)
      go (x ∷ xs) e = omega (arith, letters-more x xs e)

  pub first_word : letters_at s (start_at s at) ≡ word_at 0 (words_at s at)
  first_word = go (word_over front) refl
    where
      go : (b : Bool) → word_over front ≡ b → letters_at s (start_at s at) ≡ word_at 0 (words_at s at)
      go true e = ap (λ (n : ℕ). take n front) (no-letters e) ∙ sym (ap (word_at 0) (none-there e))
      go false e = sym (ap (word_at 0) (some-there e))

  pub words-behind : words_at s (end_at s at) ≡ drop 1 (words_at s at)
  words-behind = go (word_over front) refl
    where
      go : (b : Bool) → word_over front ≡ b → words_at s (end_at s at) ≡ drop 1 (words_at s at)
      go true e = ap words (sym behind-is ∙ ap (λ (n : ℕ). drop n front) (no-letters e)) ∙ same-words ∙ none-there e ∙ sym (ap (drop 1) (none-there e))
      go false e = sym (ap (drop 1) (some-there e))

  pub none_left : eqb (start_at s at) (end_at s at) ≡ no_more (words_at s at)
  none_left = go (word_over front) refl
    where
      go : (b : Bool) → word_over front ≡ b → eqb (start_at s at) (end_at s at) ≡ no_more (words_at s at)
      go true e = let n = no-letters e in eq-eqb (start_at s at) (end_at s at) (omega (arith, n)) ∙ sym (ap no_more (none-there e))
      go false e = let n = some-letters e in ne_eqb (start_at s at) (end_at s at) (λ q. absurd (omega (arith, n, q))) ∙ sym (ap no_more (some-there e))

-- ---- the letters at a place as a number
module _ (s : List ℕ) (at end : ℕ) (h : at ≤ length s) (e : end ≡ at + run is_digit (drop at s)) (w : end ≤ length s) where
  pub no-digits : end ≡ at → DigitsRead s at None
  no-digits z = record { found-is = sym (number-none (drop at s) (omega (arith, e, z))); read = tt }

  behind-digits : drop (run is_digit (drop at s)) (drop at s) ≡ drop end s
  behind-digits = drop-drop (run is_digit (drop at s)) at s ∙ ap (λ (k : ℕ). drop k s) (sym e)

  seen : (end ≡ at → ⊥) → is_number (letters_at s at) ≡ word_over (drop end s)
  seen z = number-some (drop at s) (more (run is_digit (drop at s)) refl) ∙ ap word_over behind-digits
    where
      more : (n : ℕ) → run is_digit (drop at s) ≡ n → 0 < run is_digit (drop at s)
      more zero q = absurd (z (omega (arith, e, q)))
      more (suc n) q = omega (arith, q)

  pub word-goes-on : (end ≡ at → ⊥) → word_over (drop end s) ≡ false → DigitsRead s at None
  word-goes-on z o = record { found-is = sym (seen z ∙ o); read = tt }

  pub all_digits : (end ≡ at → ⊥) → word_over (drop end s) ≡ true → (n : ℕ) → n ≡ at_most (number_from 0 (slice at end s)) → DigitsRead s at (Some (record { value = n; end = end }))
  unfolding value_of
  all_digits z o n q =
      let m : run is_digit (drop at s) ≡ run is_letter (drop at s) = digits-end-word (drop at s) (ap word_over behind-digits ∙ o) in
      let k : end - at ≡ run is_letter (drop at s) = omega (arith, e, m) in record {
        found-is = sym (seen z ∙ o);
        read = record {
          value-is = q ∙ ap (λ (l : List ℕ). at_most (number_from 0 l)) (slice_is s at end ∙ ap (λ (j : ℕ). take j (drop at s)) k);
          end_is = omega (arith, e, m);
          within = w;
        };
      }

-- ---- a word
-- where there is no number, the place where the word begins
placed : {A : Type 0} (s : List ℕ) (at start : ℕ) (of_kind : Bool) (value : A) (r : Option (Parsed A)) → start ≡ start_at s at → start ≤ length s
    → ReadAs s of_kind value (end_at s at) r → ReadFrom s at of_kind value (ok_or r start)
placed s at start of_kind value None e h d = record { found-is = d.found-is; read = tt; none = (e, h) }
placed s at start of_kind value (Some n) e h d = record { found-is = d.found-is; read = d.read; none = tt }

-- the number where there is one
abbrev pub NumberFound : List ℕ → ℕ → Option (Parsed ℕ) → Type 0
NumberFound s at r = ReadAs s (is_number (word_at 0 (words_at s at))) (at_most (value_of (word_at 0 (words_at s at)))) (end_at s at) r

pub number_read : (s : List ℕ) (at : ℕ) (r : Option (Parsed ℕ)) → DigitsRead s (start_at s at) r → NumberFound s at r
number_read s at r d = subst (λ (w : List ℕ). ReadAs s (is_number w) (at_most (value_of w)) (end_at s at) r)
    (first_word s at) d

pub number_found : (s : List ℕ) (at : ℕ) (r : Result (Parsed ℕ) ℕ) (o : Option (Parsed ℕ)) → NumberRead s at r → o ≡ result_ok r → NumberFound s at o
number_found s at r o d e = subst (NumberFound s at) (sym e) (go r d)
  where
    go : (r : Result (Parsed ℕ) ℕ) → NumberRead s at r → NumberFound s at (result_ok r)
    go (Ok n) d = record { found-is = d.found-is; read = d.read }
    go (Err k) d = record { found-is = d.found-is; read = tt }

-- the place behind a word that is of a kind no empty word is of
pub word-further : (p : List ℕ → Bool) (s : List ℕ) (at : ℕ) → p [] ≡ false → p (word_at 0 (words_at s at)) ≡ true → at < end_at s at
word-further p s at n e = go (words_at s at) refl
  where
    go : (ws : List (List ℕ)) → words_at s at ≡ ws → at < end_at s at
    go [] q = absurd (true≢false (sym e ∙ ap (λ (ws : List (List ℕ)). p (word_at 0 ws)) q ∙ n))
    go (w ∷ ws) q = let z = eqb-false (start_at s at) (end_at s at) (none_left s at ∙ ap no_more q) in apart (run is_letter (drop (start_at s at) s)) refl z
      where
        apart : (m : ℕ) → run is_letter (drop (start_at s at) s) ≡ m → (start_at s at ≡ end_at s at → ⊥) → at < end_at s at
        apart zero r z = absurd (z (omega (arith, r)))
        apart (suc m) r z = omega (arith, r)

-- ---- a word that may have a minus
negated : (v : ℕ) → cut_numerator (neg_ℤ (pos v)) ≡ neg_ℤ (pos (cut_magnitude v))
negated zero = refl
negated (suc v) = refl

-- a number that was cut once is cut to its field as the number is
pub cut_twice : (most above x : ℕ) → most < 1000000000000000 → cut_to most above (at_most x) ≡ cut_to most above x
cut_twice most above x h = by_cases (dec_lt 1000000000000000 x)
    (λ l. ap (cut_to most above) (high_cut x l) ∙ cut_high most above 1000000000000000 h ∙ sym (cut_high most above x (omega arith)))
    (λ n. ap (cut_to most above) (low-cut x (omega arith)))

-- the number with its sign where there is one
abbrev pub SignedFound : List ℕ → ℕ → Option (Parsed ℤ) → Type 0
SignedFound s at r = ReadAs s (is_signed (word_at 0 (words_at s at))) (cut_numerator (signed_of (word_at 0 (words_at s at)))) (end_at s at) r

-- the same number with its sign: where one is found, and what it is
signed-read : (minus : Bool) (s : List ℕ) (here there : Bool) (w : List ℕ) (end end' : ℕ) (z : ℤ) (r : Option (Parsed ℕ)) → here ≡ there → z ≡ with_sign minus (cut_magnitude (value_of w)) → end ≡ end'
    → ReadAs s here (at_most (value_of w)) end r → ReadAs s there z end' (signed minus r)
signed-read minus s here there w end end' z None e f g d = record { found-is = d.found-is ∙ e; read = tt }
signed-read minus s here there w end end' z (Some n) e f g d = record {
  found-is = d.found-is ∙ e;
  read = record {
    value-is = ap (λ (x : ℕ). with_sign minus (cut_magnitude x)) d.read.value-is ∙ ap (with_sign minus) (cut_twice max_numerator 100000000001 (value_of w) (omega arith)) ∙ sym f;
    end_is = d.read.end_is ∙ g;
    within = d.read.within;
  };
}

module _ (s : List ℕ) (at : ℕ) (r : Option (Parsed ℕ)) where
  abbrev start : ℕ
  start = start_at s at

  module _ (minus : get_or s start 0 ≡ 45) (d : DigitsRead s (start + 1) r) where
    here : start < length s
    here = inside s start 44 minus

    front-cons : drop start s ≡ 45 ∷ drop (suc start) s
    front-cons = drop-cons s start 0 here ∙ ap (λ (x : ℕ). x ∷ drop (suc start) s) minus

    letters : run is_letter (drop start s) ≡ suc (run is_letter (drop (suc start) s))
    letters = ap (run is_letter) front-cons ∙ letters-more 45 (drop (suc start) s) refl

    word-is : word_at 0 (words_at s at) ≡ 45 ∷ letters_at s (start + 1)
    word-is = sym (first_word s at) ∙ ap₂ (λ (n : ℕ) (l : List ℕ). take n l) letters front-cons ∙ rw add-one refl

    pub minus-read : SignedFound s at (signed true r)
    unfolding is_signed signed_of
    minus-read = signed-read true s _ _ (letters_at s (start + 1)) _ _ _ r (sym (ap is_signed word-is))
        (ap (λ (w : List ℕ). cut_numerator (signed_of w)) word-is ∙ negated (value_of (letters_at s (start + 1)))) (rw add-one (omega (arith, letters))) d

  module _ (plain : get_or s start 0 ≡ 45 → ⊥) (h : start ≤ length s) (d : DigitsRead s start r) where
    first_byte : (n : ℕ) → get_or (take n (drop start s)) 0 0 ≡ 45 → ⊥
    first_byte zero e = absurd (omega (arith, e))
    first_byte (suc n) e = let z : start + 0 ≡ start = omega arith in
        plain (sym (get_or-take (suc n) (drop start s) 0 0 (omega arith) ∙ get_or-drop start s 0 0 ∙ ap (λ (k : ℕ). get_or s k 0) z) ∙ e)

    unsigned : (w : List ℕ) → (get_or w 0 0 ≡ 45 → ⊥) → (is_signed w ≡ is_number w) × (signed_of w ≡ pos (value_of w))
    unfolding is_signed signed_of is_number value_of number_from
    unsigned [] n = (refl, refl)
    unsigned (x ∷ xs) n = let e = ne_eqb x 45 n in (rw e, rw e)

    as_plain : (is_signed (word_at 0 (words_at s at)) ≡ is_number (letters_at s start)) × (signed_of (word_at 0 (words_at s at)) ≡ pos (value_of (letters_at s start)))
    as_plain = subst (λ (w : List ℕ). (is_signed w ≡ is_number (letters_at s start)) × (signed_of w ≡ pos (value_of (letters_at s start)))) (first_word s at)
        (unsigned (letters_at s start) (first_byte (run is_letter (drop start s))))

    pub plain-read : SignedFound s at (signed false r)
    plain-read = signed-read false s _ _ (letters_at s start) _ _ _ r (sym as_plain.0) (ap cut_numerator as_plain.1) refl d

-- ---- the same, from the place that the blanks' end was found at
module _ (s : List ℕ) (at start : ℕ) (r : Option (Parsed ℕ)) (e : start ≡ start_at s at) (h : start ≤ length s) where
  pub number-from : (o : Result (Parsed ℕ) ℕ) → DigitsRead s start r → o ≡ ok_or r start → NumberRead s at o
  number-from o d g = subst (NumberRead s at) (sym g)
      (placed s at start _ _ r e h (number_read s at r (subst (λ (k : ℕ). DigitsRead s k r) e d)))

  signed-from : (q : Option (Parsed ℤ)) (o : Result (Parsed ℤ) ℕ) (minus : Bool) → SignedFound s at (signed minus r) → q ≡ signed minus r → o ≡ ok_or q start → SignedRead s at o
  signed-from q o minus d f g = subst (SignedRead s at) (sym g) (placed s at start _ _ q e h (subst (SignedFound s at) (sym f) d))

  pub minus-from : (q : Option (Parsed ℤ)) (o : Result (Parsed ℤ) ℕ) → get_or s start 0 ≡ 45 → DigitsRead s (start + 1) r → q ≡ signed true r → o ≡ ok_or q start → SignedRead s at o
  minus-from q o m d f g = signed-from q o true (minus-read s at r (ap (λ (k : ℕ). get_or s k 0) (sym e) ∙ m) (subst (λ (k : ℕ). DigitsRead s (k + 1) r) e d)) f g

  pub plain-from : (q : Option (Parsed ℤ)) (o : Result (Parsed ℤ) ℕ) → (get_or s start 0 ≡ 45 → ⊥) → DigitsRead s start r → q ≡ signed false r → o ≡ ok_or q start → SignedRead s at o
  plain-from q o m d f g = signed-from q o false
      (plain-read s at r (λ z. m (ap (λ (k : ℕ). get_or s k 0) e ∙ z)) (subst (λ (k : ℕ). k ≤ length s) e h) (subst (λ (k : ℕ). DigitsRead s k r) e d)) f g
