-- Little-endian numbers in a list of bytes.
use Rattle.std.specs.Prelude.{cond, List, ℕ, zero, suc, ◌+◌, ◌-◌, ◌*◌, ◌^◌, ltb, ℤ, pos, negsuc, get_or}

-- the number of `width` bytes at a place, the lowest byte first
unfoldable pub number : ℕ → List ℕ → ℕ → ℕ
number zero s at = 0
number (suc width) s at = get_or s at 0 + 256 * number width s (suc at)

-- a number of so many bits as two's complement, and one of 64
abbrev pub twos_of : ℕ → ℕ → ℤ
twos_of bits x = cond (ltb x (2 ^ (bits - 1))) (pos x) (negsuc (2 ^ bits - 1 - x))

abbrev pub twos : ℕ → ℤ
twos x = twos_of 64 x
