-- Numbers written in digits of base 1,000,000, the highest digit first, as numbers are read.
use Rattle.std.specs.Prelude.{ℕ, zero, suc, ◌+◌, ◌*◌, ℤ, pos, ◌+ℤ◌, ◌*ℤ◌}

abbrev pub base : ℕ
base = 1000000

-- the number that the first L digits of f write; a digit may be of either sign and of any size
unfoldable pub value : ℕ → (ℕ → ℤ) → ℤ
value zero f = pos 0
value (suc L) f = pos base *ℤ value L f +ℤ f L

-- the same of digits that are natural numbers
unfoldable pub natural : ℕ → (ℕ → ℕ) → ℕ
natural zero f = 0
natural (suc L) f = base * natural L f + f L
