-- Numbers of a long print by what a report holds of them, and a page of its own size.
use Rattle.std.specs.Prelude.{Bool, true, false, List, ℕ, ◌≤◌, ◌<◌, ℤ, pos, neg_ℤ, Option, Some, None, length, get_or}
use Rattle.mean.specs.Mean.{Mean}
use Rattle.long_digits.specs.Digits.{base, natural}
use Rattle.long_carrying.specs.Carried.{wide_size}

-- room for every long print
abbrev pub long_page_size : ℕ
long_page_size = 65536

-- the room for a line that is not an edge's: a word of at most 6 bytes, at most two numbers in digits, and LF
abbrev pub widest_line : ℕ
widest_line = 720

-- so many digits of a number
pub record Digits (levels : ℕ) (digits : List ℕ) : Type 0 where
  pub most : levels ≤ wide_size
  pub there : levels ≤ length digits
  pub small : (k : ℕ) → get_or digits k 0 < base

-- a number by its sign and its magnitude
abbrev pub wide_of : Bool → ℕ → ℤ
wide_of true n = neg_ℤ (pos n)
wide_of false n = pos n

-- what the mean square is over, in so many digits, or none
abbrev pub mean_by : ℕ → Option (List ℕ) → Mean
mean_by levels (Some digits) = Some (pos (natural levels (λ k. get_or digits k 0)))
mean_by levels None = None
