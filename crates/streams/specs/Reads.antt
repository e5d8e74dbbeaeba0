-- How reading goes by the numbers that the reads gave, one after the other.
use Rattle.std.specs.Prelude.{◌≡◌, List, [], ◌∷◌, ℕ, suc, min, ◌+◌, ◌-◌, ◌≤◌, ◌<◌, ℤ, pos, negsuc, length, take, Result, Ok, Err, Option, Some, None}

-- so many bytes are a front of a text, and that front has so many
abbrev pub IsPrefixLen : ℕ → List ℕ → Type 0
IsPrefixLen n xs = (n ≤ length xs) × (n ≡ length (take n xs))

-- the number that a read gave: how many bytes, or one below zero where it failed
abbrev pub number_of : {E : Type 0} → Result ℕ E → ℤ
number_of (Ok n) = pos n
number_of (Err e) = negsuc 0

-- how many bytes stand in a buffer behind one read: none is told where the number is below zero, and else so many more
-- came as there was room for
abbrev pub read_of : ℕ → ℤ → ℕ → Option ℕ
read_of count (negsuc k) left = None
read_of count (pos n) left = Some (count + min n left)

-- one read into what is left of a buffer behind so many bytes: some number was given
abbrev pub ReadOnce : ℕ → ℕ → Option ℕ → Type 0
ReadOnce room count r = (got : ℤ) × (r ≡ read_of count got (room - count))

-- how many bytes came to a buffer, whether every read went well or one failed behind so many
abbrev pub came_to : Result ℕ ℕ → ℕ
came_to (Ok n) = n
came_to (Err n) = n

-- what comes of reading on with so many bytes of a buffer filled: nothing more is read where it is full; a read that
-- gives zero ends it, one that fails leaves what had come, and behind any other it goes on
pub data Reads (room : ℕ) : ℕ → List ℤ → Result ℕ ℕ → Type 0 where
  full : Reads room room [] (Ok room)
  over : {count : ℕ} → count < room → Reads room count (pos 0 ∷ []) (Ok count)
  failed : {count k : ℕ} → count < room → Reads room count (negsuc k ∷ []) (Err count)
  on : {count n : ℕ} {later : List ℤ} {r : Result ℕ ℕ} → count < room → Reads room (count + min (suc n) (room - count)) later r → Reads room count (pos (suc n) ∷ later) r

-- some reads came to it
abbrev pub ReadIn : ℕ → ℕ → Result ℕ ℕ → Type 0
ReadIn room count r = (gave : List ℤ) × Reads room count gave r
