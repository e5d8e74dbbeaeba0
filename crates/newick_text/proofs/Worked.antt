-- RULES, Trees in text, computed: lengths as they are written and read, lengths that are refused, a tree of five strains as text, and its
-- tables with inner vertices numbered as their brackets close.
use mathlib.Core.Path.{◌≡◌, refl}
use mathlib.Core.Bool.{true, false}
use mathlib.Core.List.{List, [], ◌∷◌, map}
use Prim.Native.Nat.{ℕ, ◌+◌, ◌-◌}
use native.Mathlib.Omega.{arith}
use lib.IntN.{ℤ, pos, negsuc}
use lib.ListN.{get_or}
use Rattle.verdict.specs.Table as verdicts
use Rattle.exact.specs.Table.{entry_of, table_from}
use Rattle.digits.specs.Digits.{run, number_from}
use Rattle.writing.specs.Text.{digits}
use Rattle.newick_text.specs.Length.{magnitude_of, length_size, length_there, is_length, value_of, thousandths, length_text}
use Rattle.newick_text.specs.Tree.{leaf, node, Row, none, some, text_then, text_of, tally, Formed, max_open, max_text}
use Rattle.newick_text.specs.Table.{row_from, tree_below, tree_of, children_of, after, number_of, filled}
use Rattle.newick_text.specs.Tests.{thousand, edges_in, parents_in, numerators_in, names_wrong}

-- ---- lengths: `12.345`, `-0.001`, `0.000`
abbrev each : List (List ℕ)
each = (49 ∷ 50 ∷ 46 ∷ 51 ∷ 52 ∷ 53 ∷ []) ∷ (45 ∷ 48 ∷ 46 ∷ 48 ∷ 48 ∷ 49 ∷ []) ∷ (48 ∷ 46 ∷ 48 ∷ 48 ∷ 48 ∷ []) ∷ []

abbrev values : List ℤ
values = (pos 12345) ∷ (negsuc 0) ∷ (pos 0) ∷ []

pub lengths : (map is_length each ≡ (true ∷ true ∷ true ∷ [])) × (map value_of each ≡ values) × (map length_text values ≡ each)
unfolding is_length length_there length_size magnitude_of value_of thousandths length_text digits run number_from
lengths = (refl, refl, refl)

-- `-0.000`, `01.000`, `-01.000`, `00.000`, `1.00`, `1.0000`, `1.000x`, `.500`, `1,000`, `+1.000`, `-`
pub no_lengths : map is_length ((45 ∷ 48 ∷ 46 ∷ 48 ∷ 48 ∷ 48 ∷ []) ∷ (48 ∷ 49 ∷ 46 ∷ 48 ∷ 48 ∷ 48 ∷ []) ∷ (45 ∷ 48 ∷ 49 ∷ 46 ∷ 48 ∷ 48 ∷ 48 ∷ []) ∷ (48 ∷ 48 ∷ 46 ∷ 48 ∷ 48 ∷ 48 ∷ []) ∷ (49 ∷ 46 ∷ 48 ∷ 48 ∷ []) ∷ (49 ∷ 46 ∷ 48 ∷ 48 ∷ 48 ∷ 48 ∷ []) ∷ (49 ∷ 46 ∷ 48 ∷ 48 ∷ 48 ∷ 120 ∷ []) ∷ (46 ∷ 53 ∷ 48 ∷ 48 ∷ []) ∷ (49 ∷ 44 ∷ 48 ∷ 48 ∷ 48 ∷ []) ∷ (43 ∷ 49 ∷ 46 ∷ 48 ∷ 48 ∷ 48 ∷ []) ∷ (45 ∷ []) ∷ []) ≡ (false ∷ false ∷ false ∷ false ∷ false ∷ false ∷ false ∷ false ∷ false ∷ false ∷ false ∷ [])
unfolding is_length length_there length_size magnitude_of run number_from
no_lengths = refl

-- ---- the tree `(d:4.000,e:5.000,(c:3.000,(a:1.000,b:2.000):6.000):-7.000);`
abbrev parents : List ℕ
parents = 5 ∷ 5 ∷ 6 ∷ 7 ∷ 7 ∷ 6 ∷ 7 ∷ []

abbrev numerators : List ℤ
numerators = pos 1000 ∷ pos 2000 ∷ pos 3000 ∷ pos 4000 ∷ pos 5000 ∷ pos 6000 ∷ negsuc 6999 ∷ []

abbrev name : ℕ → List ℕ
name i = (97 + i) ∷ []

abbrev find : List ℕ → ℕ
find l = get_or l 0 0 - 97

abbrev bytes : List ℕ
bytes = 40 ∷ 100 ∷ 58 ∷ 52 ∷ 46 ∷ 48 ∷ 48 ∷ 48 ∷ 44 ∷ 101 ∷ 58 ∷ 53 ∷ 46 ∷ 48 ∷ 48 ∷ 48 ∷ 44 ∷ 40 ∷ 99 ∷ 58 ∷ 51 ∷ 46 ∷ 48 ∷ 48 ∷ 48 ∷ 44 ∷ 40 ∷ 97 ∷ 58 ∷ 49 ∷ 46 ∷ 48 ∷ 48 ∷ 48 ∷ 44 ∷ 98 ∷ 58 ∷ 50 ∷ 46 ∷ 48 ∷ 48 ∷ 48 ∷ 41 ∷ 58 ∷ 54 ∷ 46 ∷ 48 ∷ 48 ∷ 48 ∷ 41 ∷ 58 ∷ 45 ∷ 55 ∷ 46 ∷ 48 ∷ 48 ∷ 48 ∷ 41 ∷ 59 ∷ []

abbrev row : Row
row = children_of parents name (λ w. length_text (entry_of numerators w)) 5 7

-- its text, children in rising number
pub text : text_of row ≡ bytes
unfolding text_then row_from tree_below tree_of children_of thousandths length_text digits
text = refl

-- its tables: a bracket has its number as it closes
pub tables : (edges_in find 5 row ≡ 7) × (parents_in find 5 row ≡ parents) × (numerators_in find 5 row ≡ numerators)
unfolding row_from tree_below tree_of children_of thousandths length_text digits after number_of filled value_of magnitude_of run number_from table_from
tables = (refl, refl, refl)

-- ---- names: of two strains each once; one unknown, one twice, one missing
abbrev two : List ℕ → List ℕ → Row
two a b = some (leaf a) [] (some (leaf b) [] none)

pub names : (names_wrong find 2 (two (name 0) (name 1)) ≡ false) × (names_wrong find 2 (two (name 0) (name 2)) ≡ true) × (names_wrong find 2 (two (name 0) (name 0)) ≡ true)
    × (names_wrong find 2 (some (leaf (name 0)) [] none) ≡ true) × (names_wrong find 2 (some (leaf (name 2)) [] (two (name 0) (name 1))) ≡ true)
unfolding tally verdicts.some
names = (refl, refl, refl, refl, refl)

-- ---- an empty bracket is not of the form, nor is one bracket more than may be open
pub empty : Formed (node none) 62 → ⊥
unfolding Formed
empty f = f.1

pub deep : (l : List ℕ) → Formed (node (some (node (some (leaf (name 0)) l none)) l none)) 1 → ⊥
unfolding Formed
deep l f = let inner = f.2.0.0 in absurd (omega (arith, inner))

-- ---- brackets that may be open at once, bytes of a text, what a numerator is over
pub limits : (max_open ≡ 62) × (max_text ≡ 65536) × (thousand ≡ 1000)
limits = (refl, refl, refl)
