-- Decimals of numbers that have up to 64 digits of base 1,000,000.
use Rattle.std.specs.Prelude.{◌≡◌, List, [], ◌∷◌, ◌++◌, ℕ, zero, suc, ◌+◌, ◌/◌, ◌%◌, ◌≤◌, ◌<◌, ℤ, pos, negsuc}
use Rattle.writing.specs.Text.{digits}

-- the most digits of a number that is written
abbrev pub max_digits : ℕ
max_digits = 64

-- a number in decimal, without needless zeros: 400 decimals are more than any such number has
abbrev pub long_decimal : ℕ → List ℕ
long_decimal n = digits 400 n

-- with a minus where it is negative
abbrev pub long_signed : ℤ → List ℕ
long_signed (pos n) = long_decimal n
long_signed (negsuc n) = 45 ∷ long_decimal (suc n)

-- the six decimals of a digit
abbrev pub six : ℕ → List ℕ
six d = (48 + d / 100000) ∷ (48 + d / 10000 % 10) ∷ (48 + d / 1000 % 10) ∷ (48 + d / 100 % 10) ∷ (48 + d / 10 % 10) ∷ (48 + d % 10) ∷ []

-- those of so many digits from one on
unfoldable pub sixes : ℕ → ℕ → (ℕ → ℕ) → List ℕ
sixes from zero f = []
sixes from (suc j) f = sixes from j f ++ six (f (from + j))

-- the first of L digits that is not zero; L where all are
pub record FirstDigit (L : ℕ) (f : ℕ → ℕ) (k : ℕ) : Type 0 where
  pub here : k ≤ L
  pub zeros : (i : ℕ) → i < k → f i ≡ 0
  pub some : k < L → (f k ≡ 0 → ⊥)
