-- Numbers of a long print by their digits, and the most bytes that they take.
use Rattle.std.specs.Prelude.{◌≡◌, Bool, true, false, List, [], ◌∷◌, ℕ, ◌<◌, ℤ, nat_abs, length, get_or}
use Rattle.long_digits.specs.Digits.{base}
use Rattle.long_theory.specs.Long.{digit_of}
use Rattle.long_carrying.specs.Carried.{wide_size}
use Rattle.long_writing.specs.Decimals.{long_decimal}

-- a number by its sign and its magnitude
abbrev pub long_by : Bool → ℕ → List ℕ
long_by true n = 45 ∷ long_decimal n
long_by false n = long_decimal n

-- the room for a number in digits with the space before it: a space, a minus, six decimals for each of 55 digits, and what the writer of decimals asks beyond them
abbrev pub widest_field : ℕ
widest_field = 352

-- the room for the line of an edge: the word, the edge, n, m, and LF
abbrev pub widest_edge : ℕ
widest_edge = 401

-- the digits of edge v's numerator without their sign
pub record Magnitudes (L K : ℕ) (ns : List ℤ) (v : ℕ) (r : List ℕ) : Type 0 where
  pub size : length r ≡ wide_size
  pub small : (k : ℕ) → get_or r k 0 < base
  pub each : (k : ℕ) → k < L → get_or r k 0 ≡ nat_abs (digit_of K ns k v)
