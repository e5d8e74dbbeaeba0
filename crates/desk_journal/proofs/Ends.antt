-- A line that is answered `ok` has neither LF nor CR in it, since its words are those of the form (`meaning_plain`): so written with LF behind it
-- it is read as the line that it was (`read_again`).
use mathlib.Core.Path.{◌≡◌, refl, sym, ◌∙◌, ap, ap₂}
use mathlib.Core.Bool.{Bool, true, false, cond, not, ◌&&◌, ◌||◌, true≢false}
use mathlib.Core.List.{List, [], ◌∷◌, ◌++◌, map}
use Prim.Native.Nat.{ℕ, suc, ◌-◌}
use native.Mathlib.Omega.{arith}
use borrow.Author.Tests.{eqb-true, eq-eqb, ne_eqb}
use lib.Dec.{eqb, ltb}
use lib.ListN.{length, get_or, drop}
use Rattle.digits.specs.Digits.{run, same, is_blank, is_digit}
use Rattle.digits.proofs.Comparing.{same_list_lem}
use Rattle.digits.proofs.Reading.{both_true, digit_low}
use Rattle.desk_theory.specs.Desk.{Desk, post, correct, propose, withdraw}
use Rattle.desk_text.specs.Words.{word_over, onto, words, is_number, is_minus, is_signed, signed_of, value_of, leading, behind}
use Rattle.desk_text.specs.Meaning.{Meaning, silent, wrong, call, shows, by_strains, post_word, propose_word, correct_word, withdraw_word, report_word, pairs_word, slash, no_more, word_at, of_form, parents_in, post_in, propose_in, correct_in, bench_in, of_words, max_line, is_comment, meaning_of}
use Rattle.desk_text.specs.declared.View.TheVariants as views
use Rattle.desk_answers.specs.Telling.{ok_line, text_on}
use Rattle.desk_feed.specs.Feed.{in_line, feed_at, end_of}
use Rattle.desk_journal.specs.Journal.{is_ok}

abbrev plain_byte : ℕ → Bool
plain_byte x = not (eqb x 10 || eqb x 13)

abbrev plain : List ℕ → Bool
plain [] = true
plain (x ∷ xs) = plain_byte x && plain xs

abbrev all_plain : List (List ℕ) → Bool
all_plain [] = true
all_plain (w ∷ ws) = plain w && all_plain ws

-- ---- bytes and numbers
digit-plain : (x : ℕ) → is_digit x ≡ true → plain_byte x ≡ true
digit-plain x e = let h = digit_low x e in rw (ne_eqb x 10 (λ q. absurd (omega (arith, h, q))), ne_eqb x 13 (λ q. absurd (omega (arith, h, q))))

blank-plain : (x : ℕ) → is_blank x ≡ true → plain_byte x ≡ true
blank-plain x e = go (eqb x 32) refl e
  where
    go : (q : Bool) → eqb x 32 ≡ q → (q || eqb x 9) ≡ true → plain_byte x ≡ true
    go true f h = ap plain_byte (eqb-true x 32 f)
    go false f h = ap plain_byte (eqb-true x 9 h)

digits-plain : (w : List ℕ) → eqb (run is_digit w) (length w) ≡ true → plain w ≡ true
unfolding run
digits-plain [] e = refl
digits-plain (x ∷ xs) e = go (is_digit x) refl (digits-plain xs) e
  where
    go : (q : Bool) → is_digit x ≡ q → (eqb (run is_digit xs) (length xs) ≡ true → plain xs ≡ true)
        → eqb (cond q (suc (run is_digit xs)) 0) (suc (length xs)) ≡ true → (plain_byte x && plain xs) ≡ true
    go true f ih h = let s = eqb-true (suc (run is_digit xs)) (suc (length xs)) h in
        ap₂ ◌&&◌ (digit-plain x f) (ih (eq-eqb (run is_digit xs) (length xs) (omega (arith, s))))
    go false f ih h = let s = eqb-true 0 (suc (length xs)) h in absurd (omega (arith, s))

number-plain : (w : List ℕ) → is_number w ≡ true → plain w ≡ true
unfolding is_number
number-plain w e = let (h, k) = both_true (ltb 0 (length w)) (eqb (run is_digit w) (length w)) e in digits-plain w k

signed-plain : (w : List ℕ) → is_signed w ≡ true → plain w ≡ true
unfolding is_signed
signed-plain [] e = refl
signed-plain (x ∷ xs) e = go (is_minus x) refl e
  where
    go : (q : Bool) → is_minus x ≡ q → cond q (is_number xs) (is_number (x ∷ xs)) ≡ true → (plain_byte x && plain xs) ≡ true
    go true f h = ap₂ ◌&&◌ (ap plain_byte (eqb-true x 45 f)) (number-plain xs h)
    go false f h = number-plain (x ∷ xs) h

-- ---- words
onto-plain : (x : ℕ) (ws : List (List ℕ)) → all_plain (onto x ws) ≡ true → (plain_byte x ≡ true) × (all_plain ws ≡ true)
onto-plain x [] e = let (h, k) = both_true (plain_byte x && true) true e in let (a, b) = both_true (plain_byte x) true h in (a, refl)
onto-plain x (w ∷ ws) e = let (h, k) = both_true (plain_byte x && plain w) (all_plain ws) e in let (a, b) = both_true (plain_byte x) (plain w) h in (a, ap₂ ◌&&◌ b k)

words-plain : (l : List ℕ) → all_plain (words l) ≡ true → plain l ≡ true
unfolding words
words-plain [] e = refl
words-plain (x ∷ xs) e = go (is_blank x) (word_over xs) refl (words-plain xs) e
  where
    go : (b c : Bool) → is_blank x ≡ b → (all_plain (words xs) ≡ true → plain xs ≡ true)
        → all_plain (cond b (words xs) (cond c ((x ∷ []) ∷ words xs) (onto x (words xs)))) ≡ true → (plain_byte x && plain xs) ≡ true
    go true c f ih h = ap₂ ◌&&◌ (blank-plain x f) (ih h)
    go false true f ih h = let (p, q) = both_true (plain_byte x && true) (all_plain (words xs)) h in let (a, b) = both_true (plain_byte x) true p in ap₂ ◌&&◌ a (ih q)
    go false false f ih h = let (p, q) = onto-plain x (words xs) h in ap₂ ◌&&◌ p (ih q)

behind-plain : (p : List ℕ → Bool) → ((w : List ℕ) → p w ≡ true → plain w ≡ true) → (ws : List (List ℕ)) → all_plain (behind p ws) ≡ true → all_plain ws ≡ true
unfolding behind
behind-plain p f [] e = refl
behind-plain p f (w ∷ ws) e = go (p w) refl (behind-plain p f ws) e
  where
    go : (q : Bool) → p w ≡ q → (all_plain (behind p ws) ≡ true → all_plain ws ≡ true) → all_plain (cond q (behind p ws) (w ∷ ws)) ≡ true → (plain w && all_plain ws) ≡ true
    go true g ih h = ap₂ ◌&&◌ (f w g) (ih h)
    go false g ih h = h

none-plain : (ws : List (List ℕ)) → no_more ws ≡ true → all_plain ws ≡ true
none-plain [] e = refl
none-plain (w ∷ ws) e = absurd (true≢false (sym e))

from_first : (ws : List (List ℕ)) → plain (word_at 0 ws) ≡ true → all_plain (drop 1 ws) ≡ true → all_plain ws ≡ true
from_first [] p q = refl
from_first (w ∷ ws) p q = ap₂ ◌&&◌ p q

from_second : (ws : List (List ℕ)) → plain (word_at 0 ws) ≡ true → plain (word_at 1 ws) ≡ true → all_plain (drop 2 ws) ≡ true → all_plain ws ≡ true
from_second [] p q r = refl
from_second (w ∷ ws) p q r = ap₂ ◌&&◌ p (from_first ws q (next ws r))
  where
    next : (us : List (List ℕ)) → all_plain (drop 2 (w ∷ us)) ≡ true → all_plain (drop 1 us) ≡ true
    next us h = h

from-third : (ws : List (List ℕ)) → plain (word_at 0 ws) ≡ true → plain (word_at 1 ws) ≡ true → plain (word_at 2 ws) ≡ true → all_plain (drop 3 ws) ≡ true → all_plain ws ≡ true
from-third [] p q r s = refl
from-third (w ∷ ws) p q r s = ap₂ ◌&&◌ p (from_second ws q r s)

-- ---- what is of the form
abbrev spoken : Meaning → Bool
spoken silent = false
spoken wrong = false
spoken (call c) = true
spoken (shows v b) = true

of-form : (ok : Bool) (m : Meaning) → spoken (of_form ok m) ≡ true → (ok ≡ true) × (spoken m ≡ true)
of-form true m e = (refl, e)
of-form false m e = absurd (true≢false (sym e))

parents-plain : (N : ℕ) (rows : List ℕ) (ws : List (List ℕ)) → spoken (parents_in N rows ws) ≡ true → all_plain ws ≡ true
parents-plain N rows ws e =
    let (a, b) = of-form (same (word_at 0 ws) slash && no_more (behind is_number (drop 1 ws))) (call (post N (by_strains N rows) (map value_of (leading is_number (drop 1 ws))))) e in
    let (f, g) = both_true (same (word_at 0 ws) slash) (no_more (behind is_number (drop 1 ws))) a in
    from_first ws (ap plain (same_list_lem (word_at 0 ws) slash f)) (behind-plain is_number number-plain (drop 1 ws) (none-plain (behind is_number (drop 1 ws)) g))

post-plain : (ws : List (List ℕ)) → spoken (post_in ws) ≡ true → all_plain ws ≡ true
post-plain ws e =
    let (a, b) = of-form (is_number (word_at 0 ws)) (parents_in (value_of (word_at 0 ws)) (map value_of (leading is_number (drop 1 ws))) (behind is_number (drop 1 ws))) e in
    from_first ws (number-plain (word_at 0 ws) a)
    (behind-plain is_number number-plain (drop 1 ws) (parents-plain (value_of (word_at 0 ws)) (map value_of (leading is_number (drop 1 ws))) (behind is_number (drop 1 ws)) b))

propose-plain : (ws : List (List ℕ)) → spoken (propose_in ws) ≡ true → all_plain ws ≡ true
propose-plain ws e =
    let (a, b) = of-form (is_number (word_at 0 ws) && (is_number (word_at 1 ws) && no_more (behind is_signed (drop 2 ws)))) (call (propose (value_of (word_at 0 ws)) (value_of (word_at 1 ws)) (map signed_of (leading is_signed (drop 2 ws))))) e in
    let (f, g) = both_true (is_number (word_at 0 ws)) (is_number (word_at 1 ws) && no_more (behind is_signed (drop 2 ws))) a in
    let (h, k) = both_true (is_number (word_at 1 ws)) (no_more (behind is_signed (drop 2 ws))) g in
    from_second ws (number-plain (word_at 0 ws) f) (number-plain (word_at 1 ws) h) (behind-plain is_signed signed-plain (drop 2 ws) (none-plain (behind is_signed (drop 2 ws)) k))

correct-plain : (ws : List (List ℕ)) → spoken (correct_in ws) ≡ true → all_plain ws ≡ true
correct-plain ws e =
    let (a, b) = of-form (is_number (word_at 0 ws) && (is_number (word_at 1 ws) && (is_number (word_at 2 ws) && no_more (drop 3 ws)))) (call (correct (record { i = value_of (word_at 0 ws); j = value_of (word_at 1 ws); far = value_of (word_at 2 ws) }))) e in
    let (f, g) = both_true (is_number (word_at 0 ws)) (is_number (word_at 1 ws) && (is_number (word_at 2 ws) && no_more (drop 3 ws))) a in
    let (h, k) = both_true (is_number (word_at 1 ws)) (is_number (word_at 2 ws) && no_more (drop 3 ws)) g in
    let (m, n) = both_true (is_number (word_at 2 ws)) (no_more (drop 3 ws)) k in
    from-third ws (number-plain (word_at 0 ws) f) (number-plain (word_at 1 ws) h) (number-plain (word_at 2 ws) m) (none-plain (drop 3 ws) n)

bench-plain : (m : ℕ → Meaning) (ws : List (List ℕ)) → spoken (bench_in m ws) ≡ true → all_plain ws ≡ true
bench-plain m ws e =
    let (a, b) = of-form (is_number (word_at 0 ws) && no_more (drop 1 ws)) (m (value_of (word_at 0 ws))) e in
    let (f, g) = both_true (is_number (word_at 0 ws)) (no_more (drop 1 ws)) a in
    from_first ws (number-plain (word_at 0 ws) f) (none-plain (drop 1 ws) g)

-- one of the six words and what stands behind it, or what is tried next
either : (w v : List ℕ) (ws : List (List ℕ)) (m n : Meaning) → plain v ≡ true → (spoken m ≡ true → all_plain ws ≡ true) → (spoken n ≡ true → (plain w && all_plain ws) ≡ true)
    → spoken (cond (same w v) m n) ≡ true → (plain w && all_plain ws) ≡ true
either w v ws m n p f g e = go (same w v) refl e
  where
    go : (q : Bool) → same w v ≡ q → spoken (cond q m n) ≡ true → (plain w && all_plain ws) ≡ true
    go true h k = ap₂ ◌&&◌ (ap plain (same_list_lem w v h) ∙ p) (f k)
    go false h k = g k

of_words_lem : (ws : List (List ℕ)) → spoken (of_words ws) ≡ true → all_plain ws ≡ true
of_words_lem [] e = refl
of_words_lem (w ∷ ws) e = either w post_word ws (post_in ws) fifth refl (post-plain ws)
    (either w propose_word ws (propose_in ws) fourth refl (propose-plain ws)
    (either w correct_word ws (correct_in ws) third refl (correct-plain ws)
    (either w withdraw_word ws (bench_in (λ b. call (withdraw b)) ws) second refl (bench-plain (λ b. call (withdraw b)) ws)
    (either w report_word ws (bench_in (shows views.Report) ws) first refl (bench-plain (shows views.Report) ws)
    (either w pairs_word ws (bench_in (shows views.Pairs) ws) wrong refl (bench-plain (shows views.Pairs) ws) (λ h. absurd (true≢false (sym h)))))))) e
  where
    first : Meaning
    first = cond (same w pairs_word) (bench_in (shows views.Pairs) ws) wrong

    second : Meaning
    second = cond (same w report_word) (bench_in (shows views.Report) ws) first

    third : Meaning
    third = cond (same w withdraw_word) (bench_in (λ b. call (withdraw b)) ws) second

    fourth : Meaning
    fourth = cond (same w correct_word) (correct_in ws) third

    fifth : Meaning
    fifth = cond (same w propose_word) (propose_in ws) fourth

meaning_plain : (l : List ℕ) → spoken (meaning_of l) ≡ true → plain l ≡ true
unfolding meaning_of
meaning_plain l e = go (ltb max_line (length l)) (is_comment l) e
  where
    go : (a b : Bool) → spoken (cond a wrong (cond b silent (of_words (words l)))) ≡ true → plain l ≡ true
    go true b h = absurd (true≢false (sym h))
    go false true h = absurd (true≢false (sym h))
    go false false h = words-plain l (of_words_lem (words l) h)

ok-spoken : (d : Desk) (m : Meaning) → same (text_on d m) ok_line ≡ true → spoken m ≡ true
unfolding same
ok-spoken d silent e = absurd (true≢false (sym e))
ok-spoken d wrong e = absurd (true≢false (sym e))
ok-spoken d (call c) e = refl
ok-spoken d (shows v b) e = refl

-- ---- where the line ends that has LF behind it
not_either : (a b : Bool) → not (a || b) ≡ true → (not a ≡ true) × (b ≡ false)
not_either true b e = absurd (true≢false (sym e))
not_either false true e = absurd (true≢false (sym e))
not_either false false e = (refl, refl)

plain-run : (l rest : List ℕ) → plain l ≡ true → run in_line (l ++ (10 ∷ rest)) ≡ length l
unfolding run
plain-run [] rest e = refl
plain-run (x ∷ xs) rest e = let (h, k) = both_true (plain_byte x) (plain xs) e in let (a, b) = not_either (eqb x 10) (eqb x 13) h in
    ap₂ (λ (q : Bool) (n : ℕ). cond q (suc n) 0) a (plain-run xs rest k)

last-plain : (x : ℕ) (xs rest : List ℕ) → plain (x ∷ xs) ≡ true → eqb (get_or ((x ∷ xs) ++ rest) (length xs) 0) 13 ≡ false
last-plain x [] rest e = let (h, k) = both_true (plain_byte x) true e in let (a, b) = not_either (eqb x 10) (eqb x 13) h in b
last-plain x (y ∷ ys) rest e = let (h, k) = both_true (plain_byte x) (plain (y ∷ ys)) e in last-plain y ys rest k

plain_end : (l rest : List ℕ) → plain l ≡ true → end_of (l ++ (10 ∷ rest)) 0 (length l) ≡ length l
plain_end [] rest e = refl
plain_end (x ∷ xs) rest e = ap (λ (n : ℕ). cond (ltb 0 (suc (length xs)) && eqb (get_or ((x ∷ xs) ++ (10 ∷ rest)) n 0) 13) n (suc (length xs))) one_less
    ∙ ap (λ (q : Bool). cond (ltb 0 (suc (length xs)) && q) (length xs) (suc (length xs))) (last-plain x xs (10 ∷ rest) e) ∙ go (ltb 0 (suc (length xs)))
  where
    one_less : suc (length xs) - 1 ≡ length xs
    one_less = omega arith

    go : (b : Bool) → cond (b && false) (length xs) (suc (length xs)) ≡ suc (length xs)
    go true = refl
    go false = refl

pub read_again : (d : Desk) (l rest : List ℕ) → is_ok d l ≡ true → (feed_at (l ++ (10 ∷ rest)) 0 ≡ length l) × (end_of (l ++ (10 ∷ rest)) 0 (length l) ≡ length l)
read_again d l rest e = let p = meaning_plain l (ok-spoken d (meaning_of l) e) in (omega (arith, plain-run l rest p), plain_end l rest p)
