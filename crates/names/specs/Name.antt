-- The names of strains (RULES, Names of strains): 1 to 10 ASCII letters, digits or underscores.
use Rattle.std.specs.Prelude.{Bool, ◌&&◌, ◌||◌, List, [], ◌∷◌, ℕ, ◌+◌, ◌*◌, ◌%◌, eqb, leb, length}
use Rattle.digits.specs.Digits.{run, is_digit}
-- the most bytes of a name stand with the records that have room for them
pub use Rattle.records.specs.Names.{max_name}

-- a letter
abbrev pub is_letter : ℕ → Bool
is_letter x = (leb 65 x && leb x 90) || (leb 97 x && leb x 122)

-- a byte that stands in a name
unfoldable pub is_name_byte : ℕ → Bool
is_name_byte x = is_digit x || (is_letter x || eqb x 95)

-- bytes that are a name
unfoldable pub is_name : List ℕ → Bool
is_name l = leb 1 (length l) && (leb (length l) max_name && eqb (run is_name_byte l) (length l))

-- ---- a key of bytes, by which unlike names are told apart: any would do that is the same for the same bytes
abbrev pub keys : ℕ
keys = 256

unfoldable pub key_from : ℕ → List ℕ → ℕ
key_from k [] = k
key_from k (x ∷ xs) = key_from ((k * 31 + x) % keys) xs
