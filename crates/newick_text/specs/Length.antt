-- A length in a text (RULES, Trees in text): an optional minus, digits without a needless leading zero, a point and three digits; zero has
-- no minus. It is a whole number of thousandths.
use Rattle.std.specs.Prelude.{Bool, cond, not, ◌&&◌, List, [], ◌∷◌, ◌++◌, ℕ, suc, ◌+◌, ◌/◌, ◌%◌, eqb, leb, ltb, ℤ, pos, negsuc, neg_ℤ, length, get_or, take, drop}
use Rattle.digits.specs.Digits.{run, is_digit, number_from}
use Rattle.writing.specs.Text.{decimal}

-- ---- at the front of a text
-- a minus, or none
abbrev pub sign_size : List ℕ → ℕ
sign_size l = cond (eqb (get_or l 0 0) 45) 1 0

-- how many digits stand before the point, and where the point stands
abbrev pub whole_size : List ℕ → ℕ
whole_size l = run is_digit (drop (sign_size l) l)

abbrev pub point_at : List ℕ → ℕ
point_at l = sign_size l + whole_size l

-- a zero that is not the only digit before the point
abbrev pub needless : List ℕ → Bool
needless l = ltb 1 (whole_size l) && eqb (get_or l (sign_size l) 0) 48

-- the number of all its digits: thousandths, without the sign
unfoldable pub magnitude_of : List ℕ → ℕ
magnitude_of l = number_from (number_from 0 (take (whole_size l) (drop (sign_size l) l))) (take 3 (drop (point_at l + 1) l))

-- how many bytes the length has
unfoldable pub length_size : List ℕ → ℕ
length_size l = point_at l + 4

-- a length stands at the front, with no digit behind it
unfoldable pub length_there : List ℕ → Bool
length_there l =
    leb 1 (whole_size l)
    && (not (needless l)
    && (eqb (get_or l (point_at l) 0) 46
    && (eqb (run is_digit (drop (point_at l + 1) l)) 3
    && not (eqb (sign_size l) 1 && eqb (magnitude_of l) 0))))

-- ---- bytes that are a length, and its thousandths
unfoldable pub is_length : List ℕ → Bool
is_length l = length_there l && eqb (length l) (length_size l)

unfoldable pub value_of : List ℕ → ℤ
value_of l = cond (eqb (get_or l 0 0) 45) (neg_ℤ (pos (magnitude_of l))) (pos (magnitude_of l))

-- ---- how thousandths are written
unfoldable pub thousandths : ℕ → List ℕ
thousandths n = decimal (n / 1000) ++ (46 ∷ (48 + n / 100 % 10) ∷ (48 + n / 10 % 10) ∷ (48 + n % 10) ∷ [])

unfoldable pub length_text : ℤ → List ℕ
length_text (pos n) = thousandths n
length_text (negsuc n) = 45 ∷ thousandths (suc n)
