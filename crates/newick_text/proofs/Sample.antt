-- Sheet A's tree in text, worked through by the definitions: `((a:1.500,b:1.500):3.500,c:1.500,d:3.500);` has this row, these tables, and
-- passes beside four names.
use mathlib.Core.Path.{◌≡◌, refl}
use mathlib.Core.List.{List, [], ◌∷◌}
use Prim.Native.Nat.{ℕ, ◌-◌}
use native.Mathlib.Omega.{arith}
use lib.IntN.{pos}
use lib.ListN.{get_or}
use Rattle.exact.specs.Table.{table_from}
use Rattle.verdict.specs.Answer.{pass}
use Rattle.verdict.specs.Table.{some, first, count}
use Rattle.digits.specs.Digits.{run, number_from}
use Rattle.names.specs.Name.{is_name_byte, is_name}
use Rattle.newick_text.specs.Length.{magnitude_of, length_size, length_there, is_length, value_of}
use Rattle.newick_text.specs.Tree.{Row, leaf, node, none, text_then, tally, Formed, Text}
use Rattle.newick_text.specs.Tree as trees
use Rattle.newick_text.specs.Table.{after, number_of, filled}
use Rattle.newick_text.specs.Tests.{edges_in, parents_in, numerators_in, row_tests}

-- one unit and a half, and three and a half
abbrev short : List ℕ
short = 49 ∷ 46 ∷ 53 ∷ 48 ∷ 48 ∷ []

abbrev long : List ℕ
long = 51 ∷ 46 ∷ 53 ∷ 48 ∷ 48 ∷ []

abbrev pair : Row
pair = trees.some (leaf (97 ∷ [])) short (trees.some (leaf (98 ∷ [])) short none)

abbrev row : Row
row = trees.some (node pair) long (trees.some (leaf (99 ∷ [])) short (trees.some (leaf (100 ∷ [])) long none))

abbrev bytes : List ℕ
bytes =
    40 ∷ 40 ∷ 97 ∷ 58 ∷ 49 ∷ 46 ∷ 53 ∷ 48 ∷ 48 ∷ 44 ∷ 98 ∷ 58 ∷ 49 ∷ 46 ∷ 53 ∷ 48 ∷ 48 ∷ 41 ∷ 58 ∷ 51 ∷ 46 ∷ 53 ∷ 48 ∷ 48 ∷ 44
    ∷ 99 ∷ 58 ∷ 49 ∷ 46 ∷ 53 ∷ 48 ∷ 48 ∷ 44 ∷ 100 ∷ 58 ∷ 51 ∷ 46 ∷ 53 ∷ 48 ∷ 48 ∷ 41 ∷ 59 ∷ []

-- the names a, b, c, d
abbrev find : List ℕ → ℕ
find n = get_or n 0 0 - 97

pub its_text : Text bytes row
unfolding text_then Formed is_name is_name_byte is_length length_there length_size magnitude_of number_from run
its_text = record { short = omega arith; text = refl; formed = (omega arith, tt, ((omega arith, tt, (refl, refl, (refl, refl, tt))), refl, (refl, refl, (refl, refl, tt)))) }

pub its_tables : (edges_in find 4 row ≡ 5) × (parents_in find 4 row ≡ 4 ∷ 4 ∷ 5 ∷ 5 ∷ 5 ∷ []) × (numerators_in find 4 row ≡ pos 1500 ∷ pos 1500 ∷ pos 1500 ∷ pos 3500 ∷ pos 3500 ∷ [])
unfolding after number_of filled value_of magnitude_of number_from run table_from
its_tables = (refl, refl, refl)

pub it_passes : row_tests find 4 row ≡ pass
unfolding after number_of filled value_of magnitude_of number_from run table_from tally some first count
it_passes = refl
