-- What the third record of a long sheet holds, as functions of the sheet's bytes. The matrix and the tree are front's.
use Rattle.std.specs.Prelude.{List, ℕ, ◌+◌, ◌*◌, ℤ}
use Rattle.exact.specs.Table.{table}
use Rattle.endian.specs.Bytes.{number, twos_of}
use Rattle.records.specs.Form.{body_at, levels_at, long_edges_at, start_of}

-- L and K
abbrev pub levels_of : List ℕ → ℕ
levels_of s = levels_at s (start_of s 2)

abbrev pub long_edges_of : List ℕ → ℕ
long_edges_of s = long_edges_at s (start_of s 2)

-- D's digits: where they start, and what they are
abbrev pub denominator_at : List ℕ → ℕ
denominator_at s = body_at (start_of s 2) + 4

abbrev pub denominator_digit : List ℕ → ℕ → ℕ
denominator_digit s k = number 4 s (denominator_at s + 4 * k)

abbrev pub denominator_digits_of : List ℕ → List ℕ
denominator_digits_of s = table (levels_of s) (denominator_digit s)

-- the numerators' digits, level by level, behind them
abbrev pub numerators_at : List ℕ → ℕ
numerators_at s = denominator_at s + 4 * levels_of s

abbrev pub numerator_digit : List ℕ → ℕ → ℤ
numerator_digit s i = twos_of 32 (number 4 s (numerators_at s + 4 * i))

abbrev pub numerator_digits_of : List ℕ → List ℤ
numerator_digits_of s = table (levels_of s * long_edges_of s) (numerator_digit s)
