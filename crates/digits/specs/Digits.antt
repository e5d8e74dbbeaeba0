-- Blanks and digits at the front of a text, and the number that digits are. A text is a list of bytes.
use Rattle.std.specs.Prelude.{Bool, true, false, cond, ◌&&◌, ◌||◌, List, [], ◌∷◌, ℕ, suc, ◌+◌, ◌-◌, ◌*◌, eqb, leb}

-- how many bytes at the front are of a kind
unfoldable pub run : (ℕ → Bool) → List ℕ → ℕ
run p [] = 0
run p (x ∷ xs) = cond (p x) (suc (run p xs)) 0

-- two lists have the same entries
unfoldable pub same : List ℕ → List ℕ → Bool
same [] [] = true
same [] (y ∷ ys) = false
same (x ∷ xs) [] = false
same (x ∷ xs) (y ∷ ys) = eqb x y && same xs ys

-- a blank is a space or a tab
abbrev pub is_blank : ℕ → Bool
is_blank x = eqb x 32 || eqb x 9

-- a digit is one of 0 to 9
abbrev pub is_digit : ℕ → Bool
is_digit x = leb 48 x && leb x 57

-- what a digit counts; no other byte counts anything
abbrev pub digit_of : ℕ → ℕ
digit_of x = cond (is_digit x) (x - 48) 0

-- the number that digits are behind others that are a, read from the left
unfoldable pub number_from : ℕ → List ℕ → ℕ
number_from a [] = a
number_from a (x ∷ xs) = number_from (a * 10 + digit_of x) xs

-- 10^15: every field of every text ends below it
abbrev pub most : ℕ
most = 1000000000000000

-- a number up to there, and that for every number above: so digits without end are read in 64 bits
abbrev pub at_most : ℕ → ℕ
at_most a = cond (leb a most) a most
