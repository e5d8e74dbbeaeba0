-- Sheet A, byte by byte: its form, alone and with names, what its records hold, and its answer, computed.
use mathlib.Core.Path.{◌≡◌, refl}
use mathlib.Core.List.{List, [], ◌∷◌, ◌++◌}
use Prim.Native.Nat.{ℕ}
use lib.IntN.{pos, negsuc}
use lib.ListN.{length, take}
use Rattle.verdict.specs.declared.Place.TheVariants.{Byte}
use Rattle.verdict.specs.Answer.{pass, fault}
use Rattle.exact.specs.Sum.{sum, pairs, ind}
use Rattle.exact.specs.Table.{table_from}
use Rattle.exact.specs.LeastSquares.{path}
use Rattle.verdict.specs.Table.{some, first, count}
use Rattle.verdict.specs.declared.Rule.TheVariants.{Plain}
use Rattle.matrix.specs.Place.{place, known, pair_at, row_start, row_place}
use Rattle.tree_theory.specs.Chain.{lift, below, parts}
use Rattle.endian.specs.Bytes.{number, twos}
use Rattle.records.specs.Names.{name_start, name_count}
use Rattle.records.specs.Form.{start_of, records_tests, form_tests}
use Rattle.reading.specs.Holds.{strains_of, distances_of, tree_strains_of, parents_of, denominator_of, numerators_of}
use Rattle.reading.specs.Tests.{read_tests, sheet_tests}

-- three heads, each with its body
abbrev pub sheet_a : List ℕ
sheet_a =
    14 ∷ 0 ∷ 0 ∷ 0 ∷ 1 ∷ 0
    ∷ 4 ∷ 0 ∷ 3 ∷ 0 ∷ 7 ∷ 0 ∷ 8 ∷ 0 ∷ 6 ∷ 0 ∷ 9 ∷ 0 ∷ 5 ∷ 0
    ∷ 9 ∷ 0 ∷ 0 ∷ 0 ∷ 2 ∷ 0
    ∷ 4 ∷ 0 ∷ 6 ∷ 0 ∷ 4 ∷ 4 ∷ 5 ∷ 5 ∷ 5
    ∷ 46 ∷ 0 ∷ 0 ∷ 0 ∷ 3 ∷ 0
    ∷ 2 ∷ 0 ∷ 0 ∷ 0 ∷ 5 ∷ 0
    ∷ 3 ∷ 0 ∷ 0 ∷ 0 ∷ 0 ∷ 0 ∷ 0 ∷ 0
    ∷ 3 ∷ 0 ∷ 0 ∷ 0 ∷ 0 ∷ 0 ∷ 0 ∷ 0
    ∷ 3 ∷ 0 ∷ 0 ∷ 0 ∷ 0 ∷ 0 ∷ 0 ∷ 0
    ∷ 7 ∷ 0 ∷ 0 ∷ 0 ∷ 0 ∷ 0 ∷ 0 ∷ 0
    ∷ 7 ∷ 0 ∷ 0 ∷ 0 ∷ 0 ∷ 0 ∷ 0 ∷ 0
    ∷ []

pub all-bytes : length sheet_a ≡ 87
all-bytes = refl

pub form : form_tests 3 sheet_a ≡ pass
unfolding number start_of records_tests
form = refl

pub strains : (strains_of sheet_a ≡ 4) × (tree_strains_of sheet_a ≡ 4)
unfolding number start_of records_tests
strains = (refl, refl)

-- in the matrix's order; its rows have 3 7 8 6 9 5
pub distances : distances_of sheet_a ≡ 3 ∷ 7 ∷ 6 ∷ 8 ∷ 9 ∷ 5 ∷ []
unfolding number start_of table_from pair_at row_start row_place
distances = refl

pub parents : parents_of sheet_a ≡ 4 ∷ 4 ∷ 5 ∷ 5 ∷ 5 ∷ []
unfolding number start_of table_from
parents = refl

pub denominator : denominator_of sheet_a ≡ 2
unfolding number start_of records_tests
denominator = refl

pub numerators : numerators_of sheet_a ≡ pos 3 ∷ pos 3 ∷ pos 3 ∷ pos 7 ∷ pos 7 ∷ []
unfolding number start_of table_from
numerators = refl

pub accepted : sheet_tests Plain sheet_a ≡ pass
unfolding sum pairs ind table_from path some first count place known pair_at row_start row_place lift below parts number start_of records_tests
accepted = refl

-- its first two records: a sheet without lengths. The whole sheet is none, since bytes are left.
abbrev pub bare_a : List ℕ
bare_a = take 35 sheet_a

pub bare-accepted : (form_tests 2 bare_a ≡ pass) × (read_tests 2 bare_a ≡ pass) × (form_tests 2 sheet_a ≡ fault 5 (Byte 35))
unfolding table_from known pair_at row_start row_place some first count number start_of records_tests
bare-accepted = (refl, refl, refl)

pub same-front : (distances_of bare_a ≡ distances_of sheet_a) × (parents_of bare_a ≡ parents_of sheet_a)
unfolding table_from pair_at row_start row_place number start_of
same-front = (refl, refl)

-- the fourth record of a sheet with names: `a`, `b`, `c`, `d`, or one fewer
abbrev names : List ℕ
names = 8 ∷ 0 ∷ 0 ∷ 0 ∷ 5 ∷ 0 ∷ 1 ∷ 97 ∷ 1 ∷ 98 ∷ 1 ∷ 99 ∷ 1 ∷ 100 ∷ []

abbrev fewer : List ℕ
fewer = 6 ∷ 0 ∷ 0 ∷ 0 ∷ 5 ∷ 0 ∷ 1 ∷ 97 ∷ 1 ∷ 98 ∷ 1 ∷ 99 ∷ []

pub named : (form_tests 4 (sheet_a ++ names) ≡ pass) × (form_tests 4 (sheet_a ++ fewer) ≡ fault 4 (Byte 87)) × (form_tests 4 sheet_a ≡ fault 2 (Byte 87)) × (form_tests 3 (sheet_a ++ names) ≡ fault 5 (Byte 87))
unfolding number start_of records_tests name_start name_count count
named = (refl, refl, refl, refl)

-- eight bytes of a number below zero
pub below-zero : twos (number 8 (253 ∷ 255 ∷ 255 ∷ 255 ∷ 255 ∷ 255 ∷ 255 ∷ 255 ∷ []) 0) ≡ negsuc 2
unfolding number start_of records_tests
below-zero = refl
