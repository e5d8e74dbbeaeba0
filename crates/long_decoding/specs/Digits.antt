-- The digits of long lengths among the bytes: each has four, the lowest first. Those of D are natural numbers, those of numerators two's complement.
use Rattle.std.specs.Prelude.{List, ℕ, ◌+◌, ◌*◌, ℤ}
use Rattle.tree_theory.specs.Limits.{max_edges}
use Rattle.endian.specs.Bytes.{number, twos_of}
use Rattle.long_theory.specs.Long.{max_levels}

-- the most digits of numerators: 52 of each of 125
abbrev pub max_digits : ℕ
max_digits = max_levels * max_edges

-- digit k of those that start at a place
abbrev pub natural_at : List ℕ → ℕ → ℕ → ℕ
natural_at s at k = number 4 s (at + 4 * k)

abbrev pub signed_at : List ℕ → ℕ → ℕ → ℤ
signed_at s at k = twos_of 32 (number 4 s (at + 4 * k))
