-- The text of a matrix and names: LF behind the count and behind each row, one space before each decimal, four places.
use Rattle.std.specs.Prelude.{cond, List, [], ◌∷◌, ◌++◌, ℕ, ◌+◌, ◌*◌, ◌/◌, ◌%◌, eqb, get_or}
use Rattle.exact.specs.Table.{table}
use Rattle.matrix.specs.Limits.{missing}
use Rattle.matrix.specs.Place.{pair_place}
use Rattle.writing.specs.Text.{decimal}
use Rattle.pieces.specs.Pieces.{pieces}
use Rattle.phylip_text.specs.Form.{name_size}

-- a cell with the space before it: -1 for a missing pair, or the units with four places
unfoldable pub cell_written : ℕ → List ℕ
cell_written e =
    32 ∷ cond (eqb e missing) (45 ∷ 49 ∷ [])
    ((48 + e / 10000) ∷ 46 ∷ (48 + e / 1000 % 10) ∷ (48 + e / 100 % 10) ∷ (48 + e / 10 % 10) ∷ (48 + e % 10) ∷ [])

-- what stands in row i and column j: zero on the diagonal, and on both sides of it the distance of the two strains
abbrev pub value_at : List ℕ → ℕ → ℕ → ℕ
value_at ds i j = cond (eqb i j) 0 (get_or ds (pair_place i j) 0)

-- the name of strain i
abbrev pub name_written : List ℕ → ℕ → List ℕ
name_written names i = table name_size (λ k. get_or names (name_size * i + k) 0)

-- row i
unfoldable pub row_written : ℕ → List ℕ → List ℕ → ℕ → List ℕ
row_written N ds names i = name_written names i ++ (pieces N (λ j. cell_written (value_at ds i j)) ++ (10 ∷ []))

-- the whole text
unfoldable pub text_of : ℕ → List ℕ → List ℕ → List ℕ
text_of N ds names = decimal N ++ (10 ∷ pieces N (row_written N ds names))

-- the most bytes of a row, of 64 cells of 7 bytes; and of a text, with a count of at most 20 digits
abbrev pub widest_row : ℕ
widest_row = 459

abbrev pub widest_text : ℕ
widest_text = 29397
