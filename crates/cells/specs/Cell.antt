-- One cell of a square matrix at the front of a text: a decimal, which is digits, alone or with a point and more digits, or the
-- two bytes -1 for a pair that was not measured. A blank is a space or a tab, a line end LF or CR LF; a gap is any of them.
-- One unit is 0.0001.
use Rattle.std.specs.Prelude.{Bool, false, cond, ◌&&◌, ◌||◌, List, [], ◌∷◌, ℕ, suc, ◌+◌, ◌-◌, eqb, ltb, get_or, take, drop, replicate}
use Rattle.matrix.specs.Limits.{max_distance, missing}
use Rattle.digits.specs.Digits.{run, is_digit, number_from}

-- a byte that stands in a gap, with the byte behind it: CR only before LF
abbrev pub in_gap : ℕ → ℕ → Bool
in_gap x y = eqb x 32 || (eqb x 9 || (eqb x 10 || (eqb x 13 && eqb y 10)))

-- how many bytes the gap at the front has
unfoldable pub gap : List ℕ → ℕ
gap [] = 0
gap (x ∷ xs) = cond (in_gap x (get_or xs 0 0)) (suc (gap xs)) 0

-- how many digits stand before a point
abbrev pub whole : List ℕ → ℕ
whole l = run is_digit l

-- whether a point stands behind them
abbrev pub pointed : List ℕ → Bool
pointed l = eqb (get_or l (whole l) 0) 46

-- how many digits stand behind the point
abbrev pub part : List ℕ → ℕ
part l = run is_digit (drop (whole l + 1) l)

-- the places of a decimal: the digits behind its point, none where it has no point
abbrev pub places : List ℕ → ℕ
places l = cond (pointed l) (part l) 0

-- how many bytes the decimal at the front has, 0 where there is none: digits before a point, and digits behind it where there is one
abbrev pub decimal_size : List ℕ → ℕ
decimal_size l = cond (eqb (whole l) 0) 0 (cond (pointed l) (cond (eqb (part l) 0) 0 (whole l + 1 + part l)) (whole l))

-- the two bytes -1
abbrev pub is_missing : List ℕ → Bool
is_missing l = eqb (get_or l 0 0) 45 && eqb (get_or l 1 0) 49

-- how many bytes the cell at the front has, 0 where there is none
unfoldable pub cell_size : List ℕ → ℕ
cell_size l = cond (is_missing l) 2 (decimal_size l)

-- the decimal in units: the number of its digits before the point, those behind it, and zeros up to four places
abbrev pub units_of : List ℕ → ℕ
units_of l = number_from (number_from (number_from 0 (take (whole l) l)) (take (places l) (drop (whole l + 1) l))) (replicate (4 - places l) 48)

-- 18: more than four places, or above 5.0000
abbrev pub units_out : ℕ → ℕ → Bool
units_out places units = ltb 4 places || ltb max_distance units

abbrev pub decimal_out : List ℕ → Bool
decimal_out l = units_out (places l) (units_of l)

-- what a matrix holds of a decimal: its units, and nothing of one that is out
abbrev pub decimal_entry : List ℕ → ℕ
decimal_entry l = cond (decimal_out l) 0 (units_of l)

-- the same of a cell: -1 is never out, and is the mark of a missing pair
unfoldable pub cell_out : List ℕ → Bool
cell_out l = cond (is_missing l) false (decimal_out l)

unfoldable pub cell_entry : List ℕ → ℕ
cell_entry l = cond (is_missing l) missing (decimal_entry l)
