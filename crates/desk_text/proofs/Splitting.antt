-- The words of a line from its front: blanks before them do not matter (`words-past`), the first is all the letters that stand there
-- (`words-first`), and there are no more of them than a line's bytes allow (`few_words`). Whether the first is a number is seen from the
-- digits at the front and from what stands behind them (`number-none`, `number-some`).
use mathlib.Core.Path.{◌≡◌, refl, sym, ◌∙◌, ap, ap₂}
use mathlib.Core.Bool.{Bool, true, false, cond, not, ◌&&◌, true≢false}
use mathlib.Core.List.{List, [], ◌∷◌}
use Prim.Native.Nat.{ℕ, suc, ◌+◌, ◌*◌, ◌≤◌, ◌<◌}
use native.Mathlib.Omega.{arith}
use borrow.Author.Tests.{eqb-true, eqb-false, eq-eqb, ne_eqb, lt-ltb}
use lib.Dec.{eqb, ltb}
use lib.ListN.{length, take, drop}
use Rattle.digits.specs.Digits.{run, is_blank, is_digit}
use Rattle.digits.proofs.Reading.{digit_low}
use Rattle.desk_text.specs.Meaning.{max_line, max_words}
use Rattle.desk_text.specs.Words.{is_letter, word_over, onto, words, is_number}

pub words-past : (l : List ℕ) → words (drop (run is_blank l) l) ≡ words l
unfolding words run
words-past [] = refl
words-past (x ∷ xs) = go (is_blank x) refl (words-past xs)
  where
    go : (b : Bool) → is_blank x ≡ b → words (drop (run is_blank xs) xs) ≡ words xs → words (drop (cond b (suc (run is_blank xs)) 0) (x ∷ xs)) ≡ words (x ∷ xs)
    go true e ih = ih ∙ sym (ap (λ (q : Bool). cond q (words xs) (cond (word_over xs) ((x ∷ []) ∷ words xs) (onto x (words xs)))) e)
    go false e ih = refl

-- behind the blanks at the front no blank stands
pub past-over : (l : List ℕ) → word_over (drop (run is_blank l) l) ≡ eqb (length (drop (run is_blank l) l)) 0
unfolding run
past-over [] = refl
past-over (x ∷ xs) = go (is_blank x) refl (past-over xs)
  where
    go : (b : Bool) → is_blank x ≡ b → word_over (drop (run is_blank xs) xs) ≡ eqb (length (drop (run is_blank xs) xs)) 0
        → word_over (drop (cond b (suc (run is_blank xs)) 0) (x ∷ xs)) ≡ eqb (length (drop (cond b (suc (run is_blank xs)) 0) (x ∷ xs))) 0
    go true e ih = ih
    go false e ih = e ∙ sym (ne_eqb (suc (length xs)) 0 (λ q. absurd (omega (arith, q))))

-- where no word goes on there are no letters
pub over_none : (l : List ℕ) → word_over l ≡ true → run is_letter l ≡ 0
unfolding run
over_none [] e = refl
over_none (x ∷ xs) e = ap (λ (q : Bool). cond (not q) (suc (run is_letter xs)) 0) e

pub letters-more : (x : ℕ) (xs : List ℕ) → is_blank x ≡ false → run is_letter (x ∷ xs) ≡ suc (run is_letter xs)
unfolding run
letters-more x xs e = ap (λ (q : Bool). cond (not q) (suc (run is_letter xs)) 0) e

words_more : (x : ℕ) (xs : List ℕ) → is_blank x ≡ false → words (x ∷ xs) ≡ cond (word_over xs) ((x ∷ []) ∷ words xs) (onto x (words xs))
unfolding words
words_more x xs e = ap (λ (q : Bool). cond q (words xs) (cond (word_over xs) ((x ∷ []) ∷ words xs) (onto x (words xs)))) e

pub words-first : (l : List ℕ) → word_over l ≡ false → words l ≡ take (run is_letter l) l ∷ words (drop (run is_letter l) l)
words-first [] e = absurd (true≢false e)
words-first (x ∷ xs) e = words_more x xs e ∙ go (word_over xs) refl (words-first xs) ∙ sym (ap (λ (n : ℕ). take n (x ∷ xs) ∷ words (drop n (x ∷ xs))) (letters-more x xs e))
  where
    go : (b : Bool) → word_over xs ≡ b → (word_over xs ≡ false → words xs ≡ take (run is_letter xs) xs ∷ words (drop (run is_letter xs) xs))
        → cond b ((x ∷ []) ∷ words xs) (onto x (words xs)) ≡ (x ∷ take (run is_letter xs) xs) ∷ words (drop (run is_letter xs) xs)
    go true f ih = sym (ap (λ (n : ℕ). (x ∷ take n xs) ∷ words (drop n xs)) (over_none xs f))
    go false f ih = ap (onto x) (ih f)

-- ---- how many words a line can have
onto-size : (x : ℕ) (ws : List (List ℕ)) (n : ℕ) → 2 * length ws ≤ n + 1 → 2 * length (onto x ws) ≤ n + 2
onto-size x [] n h = omega arith
onto-size x (w ∷ ws) n h = omega (arith, h)

-- one byte more is needed before a word that goes on
abbrev missing : Bool → ℕ
missing true = 0
missing false = 1

missing-one : (b : Bool) → missing b ≤ 1
missing-one true = omega arith
missing-one false = omega arith

words_size : (l : List ℕ) → 2 * length (words l) ≤ length l + missing (word_over l)
unfolding words
words_size [] = omega arith
words_size (x ∷ xs) = go (is_blank x) (word_over xs) refl (words_size xs)
  where
    go : (b c : Bool) → word_over xs ≡ c → 2 * length (words xs) ≤ length xs + missing (word_over xs)
        → 2 * length (cond b (words xs) (cond c ((x ∷ []) ∷ words xs) (onto x (words xs)))) ≤ suc (length xs) + missing b
    go true c e ih = omega (arith, ih, missing-one (word_over xs))
    go false true e ih = omega (arith, ih, ap missing e)
    go false false e ih = let h = onto-size x (words xs) (length xs) (omega (arith, ih, missing-one (word_over xs))) in omega (arith, h)

pub few_words : (l : List ℕ) → length l ≤ max_line → length (words l) ≤ max_words
few_words l h = omega (arith, h, words_size l, missing-one (word_over l))

-- ---- a number at the front
and-false : (b : Bool) → (b && false) ≡ false
and-false true = refl
and-false false = refl

digit_letter : (x : ℕ) → is_digit x ≡ true → is_blank x ≡ false
digit_letter x e = let h = digit_low x e in rw (ne_eqb x 32 (λ q. absurd (omega (arith, h, q))), ne_eqb x 9 (λ q. absurd (omega (arith, h, q))))

suc-eqb : (a b : ℕ) → eqb (suc a) (suc b) ≡ eqb a b
suc-eqb a b = go (eqb a b) refl
  where
    go : (q : Bool) → eqb a b ≡ q → eqb (suc a) (suc b) ≡ q
    go true e = eq-eqb (suc a) (suc b) (ap suc (eqb-true a b e))
    go false e = ne_eqb (suc a) (suc b) (λ f. eqb-false a b e (omega (arith, f)))

-- the first word has nothing but digits exactly where no word goes on behind them
digits-all : (l : List ℕ) → eqb (run is_digit (take (run is_letter l) l)) (length (take (run is_letter l) l)) ≡ word_over (drop (run is_digit l) l)
unfolding run
digits-all [] = refl
digits-all (x ∷ xs) = go (is_blank x) (is_digit x) refl refl (digits-all xs)
  where
    go : (b d : Bool) → is_blank x ≡ b → is_digit x ≡ d → eqb (run is_digit (take (run is_letter xs) xs)) (length (take (run is_letter xs) xs)) ≡ word_over (drop (run is_digit xs) xs)
        → eqb (run is_digit (take (cond (not b) (suc (run is_letter xs)) 0) (x ∷ xs))) (length (take (cond (not b) (suc (run is_letter xs)) 0) (x ∷ xs))) ≡ word_over (drop (cond d (suc (run is_digit xs)) 0) (x ∷ xs))
    go true true e f ih = absurd (true≢false (sym e ∙ digit_letter x f))
    go true false e f ih = sym e
    go false true e f ih = ap (λ (q : Bool). eqb (cond q (suc (run is_digit (take (run is_letter xs) xs))) 0) (suc (length (take (run is_letter xs) xs)))) f
        ∙ suc-eqb (run is_digit (take (run is_letter xs) xs)) (length (take (run is_letter xs) xs)) ∙ ih
    go false false e f ih = ap (λ (q : Bool). eqb (cond q (suc (run is_digit (take (run is_letter xs) xs))) 0) (suc (length (take (run is_letter xs) xs)))) f ∙ ne_eqb 0 (suc (length (take (run is_letter xs) xs))) (λ q. absurd (omega (arith, q))) ∙ sym e

-- then it ends with them
pub digits-end-word : (l : List ℕ) → word_over (drop (run is_digit l) l) ≡ true → run is_digit l ≡ run is_letter l
unfolding run
digits-end-word [] e = refl
digits-end-word (x ∷ xs) e = go (is_blank x) (is_digit x) refl refl (digits-end-word xs) e
  where
    go : (b d : Bool) → is_blank x ≡ b → is_digit x ≡ d → (word_over (drop (run is_digit xs) xs) ≡ true → run is_digit xs ≡ run is_letter xs)
        → word_over (drop (cond d (suc (run is_digit xs)) 0) (x ∷ xs)) ≡ true → cond d (suc (run is_digit xs)) 0 ≡ cond (not b) (suc (run is_letter xs)) 0
    go true true e f ih h = absurd (true≢false (sym e ∙ digit_letter x f))
    go true false e f ih h = refl
    go false true e f ih h = ap suc (ih h)
    go false false e f ih h = absurd (true≢false (sym h ∙ e))

digits-within : (l : List ℕ) → run is_digit l ≤ length (take (run is_letter l) l)
unfolding run
digits-within [] = omega arith
digits-within (x ∷ xs) = go (is_blank x) (is_digit x) refl refl (digits-within xs)
  where
    go : (b d : Bool) → is_blank x ≡ b → is_digit x ≡ d → run is_digit xs ≤ length (take (run is_letter xs) xs)
        → cond d (suc (run is_digit xs)) 0 ≤ length (take (cond (not b) (suc (run is_letter xs)) 0) (x ∷ xs))
    go true true e f ih = absurd (true≢false (sym e ∙ digit_letter x f))
    go true false e f ih = omega arith
    go false true e f ih = omega (arith, ih)
    go false false e f ih = omega arith

-- no digit at the front: the first word is no number
pub number-none : (l : List ℕ) → run is_digit l ≡ 0 → is_number (take (run is_letter l) l) ≡ false
unfolding is_number
number-none l e = go (word_over l) refl
  where
    all : eqb (run is_digit (take (run is_letter l) l)) (length (take (run is_letter l) l)) ≡ word_over l
    all = digits-all l ∙ ap (λ (n : ℕ). word_over (drop n l)) e

    go : (b : Bool) → word_over l ≡ b → is_number (take (run is_letter l) l) ≡ false
    go true f = ap (λ (n : ℕ). is_number (take n l)) (over_none l f)
    go false f = ap (λ (q : Bool). ltb 0 (length (take (run is_letter l) l)) && q) (all ∙ f) ∙ and-false (ltb 0 (length (take (run is_letter l) l)))

-- digits at the front: it is one where no word goes on behind them
pub number-some : (l : List ℕ) → 0 < run is_digit l → is_number (take (run is_letter l) l) ≡ word_over (drop (run is_digit l) l)
unfolding is_number
number-some l h = ap₂ ◌&&◌ (lt-ltb 0 (length (take (run is_letter l) l)) (omega (arith, h, digits-within l))) (digits-all l)
