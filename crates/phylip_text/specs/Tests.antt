-- The tests of a text and of a matrix to be written, in their order, and what is read where they pass.
use Rattle.std.specs.Prelude.{◌≡◌, Bool, not, ◌||◌, List, ℕ, ◌*◌, eqb, ltb, length, get_or}
use Rattle.verdict.specs.Answer.{Answer, test, ◌or_else◌}
use Rattle.verdict.specs.Table.{some}
use Rattle.matrix.specs.Place.{pair_count}
use Rattle.matrix.specs.Tests.{strains_out, matrix_tests}
use Rattle.phylip_text.specs.Form.{name_out, name_size, count_size, count_of, behind_count, end_bad, rows_of, rows_bad, decimals_out, entry_at, halves_out, distances_read, names_read}

-- a text has at most 65,536 bytes
abbrev pub max_text : ℕ
max_text = 65536

-- ---- reading
-- 17: the text is too long, or has no count
abbrev pub countless : List ℕ → Bool
countless t = ltb max_text (length t) || eqb (count_size t) 0

-- 17: the text is not of the form
abbrev pub form_bad : List ℕ → Bool
form_bad t = end_bad (behind_count t) || rows_bad (count_of t) (rows_of t)

-- the cells of a text, by row and column
abbrev pub entries : List ℕ → ℕ → ℕ → ℕ
entries t = entry_at (count_of t) (rows_of t)

-- 17, 6, 17, 18, 19: what a text is asked
abbrev pub text_tests : List ℕ → Answer
text_tests t = test 17 (countless t) or_else test 6 (strains_out (count_of t)) or_else test 17 (form_bad t)
    or_else test 18 (decimals_out (count_of t) (rows_of t)) or_else test 19 (halves_out (count_of t) (entries t))

-- 15: room for other than N(N-1)/2 distances or 10N name bytes
abbrev pub room_out : ℕ → ℕ → ℕ → Bool
room_out N distances names = not (eqb distances (pair_count N)) || not (eqb names (name_size * N))

-- the answer that a text gets, with room for so many distances and name bytes
abbrev pub read_tests : List ℕ → ℕ → ℕ → Answer
read_tests t distances names = text_tests t or_else test 15 (room_out (count_of t) distances names)

-- a text read: its distances and its names
pub record Reads (t ds names : List ℕ) : Type 0 where
  pub distances_are : ds ≡ distances_read (count_of t) (entries t)
  pub names_are : names ≡ names_read (count_of t) (rows_of t)

-- ---- writing
-- 4: not ten name bytes a strain
abbrev pub names_short : ℕ → List ℕ → Bool
names_short N names = not (eqb (length names) (name_size * N))

-- 17: a byte that no name has
abbrev pub name_byte_out : List ℕ → Bool
name_byte_out names = some (length names) (λ k. name_out (get_or names k 0))

-- 4, 6, 7, 17: what a matrix and names are asked
abbrev pub matter_tests : ℕ → List ℕ → List ℕ → Answer
matter_tests N ds names = test 4 (names_short N names) or_else (matrix_tests N ds or_else test 17 (name_byte_out names))

-- the answer that they get, with a buffer of so many bytes
abbrev pub write_tests : ℕ → List ℕ → List ℕ → ℕ → Answer
write_tests N ds names room = matter_tests N ds names or_else test 15 (not (eqb room max_text))
