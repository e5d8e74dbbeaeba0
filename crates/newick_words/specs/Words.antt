-- The words at the front of a text (RULES, Trees in text), by how many bytes they have, 0 where none stands there; a length's
-- thousandths, cut where no length may go; and what reading digits and a length gives.
use Rattle.std.specs.Prelude.{◌≡◌, cond, ◌&&◌, List, ℕ, suc, ◌+◌, ◌≤◌, eqb, leb, ℤ, pos, negsuc, neg_ℤ, length, get_or, drop}
use Rattle.std.proofs.Math.Seq.{slice}
use Rattle.digits.specs.Digits.{run, is_digit, most, at_most, number_from}
use Rattle.names.specs.Name.{max_name, is_name_byte}
use Rattle.newick_text.specs.Length.{length_there, length_size, value_of}
use Rattle.newick_words.specs.declared.Digits.{Digits}
use Rattle.newick_words.specs.declared.Length.{Length}

-- a name, with no byte behind it that could be in one
unfoldable pub name_width : List ℕ → ℕ
name_width l = cond (leb (run is_name_byte l) max_name) (run is_name_byte l) 0

-- a length
unfoldable pub length_width : List ℕ → ℕ
length_width l = cond (length_there l) (length_size l) 0

-- a colon and a length
unfoldable pub edge_width : List ℕ → ℕ
edge_width l = cond (eqb (get_or l 0 0) 58 && length_there (drop 1 l)) (1 + length_size (drop 1 l)) 0

-- a whole number, and 10^15 in magnitude for every one beyond it
unfoldable pub cut : ℤ → ℤ
cut (pos n) = pos (at_most n)
cut (negsuc n) = neg_ℤ (pos (at_most (suc n)))

-- ---- what is read at a place
-- digits
pub record DigitsRead (s : List ℕ) (at : ℕ) (r : Digits) : Type 0 where
  pub stop : r.end ≡ at + run is_digit (drop at s)
  pub within : r.end ≤ length s
  pub all : r.number ≡ at_most (number_from 0 (slice at r.end s))
  pub small : r.number ≤ most

-- a length
pub record LengthRead (s : List ℕ) (at : ℕ) (r : Length) : Type 0 where
  pub stop : r.end ≡ at + length_size (drop at s)
  pub within : r.end ≤ length s
  pub value : r.thousandths ≡ cut (value_of (drop at s))
