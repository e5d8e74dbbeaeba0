-- The words of a line, and the numbers that words are (RULES, The desk's lines). A line is a list of bytes, without its end.
use Rattle.std.specs.Prelude.{Bool, true, false, cond, not, ◌&&◌, List, [], ◌∷◌, ℕ, eqb, ltb, ℤ, pos, neg_ℤ, length}
use Rattle.digits.specs.Digits.{run, is_blank, is_digit, number_from}

-- ---- words: bytes that are no blanks, parted by blanks
abbrev pub is_letter : ℕ → Bool
is_letter x = not (is_blank x)

-- nothing is left, or a blank stands at the front: no word goes on
abbrev pub word_over : List ℕ → Bool
word_over [] = true
word_over (x ∷ xs) = is_blank x

-- a byte before the first word
abbrev pub onto : ℕ → List (List ℕ) → List (List ℕ)
onto x [] = (x ∷ []) ∷ []
onto x (w ∷ ws) = (x ∷ w) ∷ ws

unfoldable pub words : List ℕ → List (List ℕ)
words [] = []
words (x ∷ xs) = cond (is_blank x) (words xs) (cond (word_over xs) ((x ∷ []) ∷ words xs) (onto x (words xs)))

-- ---- numbers: one digit or more, and nothing else
unfoldable pub is_number : List ℕ → Bool
is_number w = ltb 0 (length w) && eqb (run is_digit w) (length w)

unfoldable pub value_of : List ℕ → ℕ
value_of w = number_from 0 w

-- ---- numbers that may have a minus before them
abbrev pub is_minus : ℕ → Bool
is_minus x = eqb x 45

unfoldable pub is_signed : List ℕ → Bool
is_signed [] = false
is_signed (x ∷ xs) = cond (is_minus x) (is_number xs) (is_number (x ∷ xs))

unfoldable pub signed_of : List ℕ → ℤ
signed_of [] = pos 0
signed_of (x ∷ xs) = cond (is_minus x) (neg_ℤ (pos (value_of xs))) (pos (value_of (x ∷ xs)))

-- ---- words of a kind
-- those at the front, and what stands behind them
unfoldable pub leading : (List ℕ → Bool) → List (List ℕ) → List (List ℕ)
leading p [] = []
leading p (w ∷ ws) = cond (p w) (w ∷ leading p ws) []

unfoldable pub behind : (List ℕ → Bool) → List (List ℕ) → List (List ℕ)
behind p [] = []
behind p (w ∷ ws) = cond (p w) (behind p ws) (w ∷ ws)
