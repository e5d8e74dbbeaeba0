-- Plain text as bytes: decimals, and what a buffer holds once text is written at a place.
use Rattle.std.specs.Prelude.{◌≡◌, cond, List, [], ◌∷◌, ◌++◌, ℕ, zero, suc, ◌+◌, ◌/◌, ◌%◌, ltb, ℤ, pos, negsuc, length, take, drop}

-- the last `most` digits at the most of n, the leading one first, without needless zeros
unfoldable pub digits : ℕ → ℕ → List ℕ
digits zero n = []
digits (suc most) n = cond (ltb n 10) ((48 + n) ∷ []) (digits most (n / 10) ++ ((48 + n % 10) ∷ []))

-- a number of 64 bits in decimal
abbrev pub decimal : ℕ → List ℕ
decimal n = digits 20 n

-- with a minus where it is negative
abbrev pub signed : ℤ → List ℕ
signed (pos n) = decimal n
signed (negsuc n) = 45 ∷ decimal (suc n)

-- the buffer with the text written over what stood at the place and behind it
abbrev pub written : List ℕ → ℕ → List ℕ → List ℕ
written buffer at text = take at buffer ++ (text ++ drop (at + length text) buffer)

-- what a writer leaves: the next place, and the buffer with the text
pub record Wrote (before after : List ℕ) (at : ℕ) (text : List ℕ) (next : ℕ) : Type 0 where
  pub place : next ≡ at + length text
  pub buffer : after ≡ written before at text
