-- Sheet A corrected, computed from the definitions (RULES, One distance corrected). Its split sums are 18 18 18 22 30; strains 2 and 0 come to 10,
-- and edges 0, 2 and 4 have 3 more. 24 comes before 7. Three marks about strain 0 leave edge 0 no measured pair, so the third is 26.
use mathlib.Core.Path.{◌≡◌, refl}
use mathlib.Core.Bool.{Bool, true, ◌&&◌}
use mathlib.Core.List.{List, [], ◌∷◌}
use lib.Dec.{eqb}
use lib.IntN.{pos}
use lib.ListN.{get_or}
use Rattle.exact.specs.Sum.{sum, pairs, ind}
use Rattle.exact.specs.Table.{table, table_from}
use Rattle.verdict.specs.Answer.{Answer, fault}
use Rattle.verdict.specs.declared.Place.TheVariants.{Nowhere, Edge}
use Rattle.verdict.specs.Table.{some, first}
use Rattle.matrix.specs.Limits.{missing}
use Rattle.matrix.specs.Place.{place, pair_place, known}
use Rattle.tree_theory.specs.Chain.{lift, below, parts}
use Rattle.fit_theory.specs.Figures.{distances_a, parents_a, same_list}
use Rattle.correction_theory.specs.Correction.{Correction, correction_tests}
use Rattle.correction_theory.specs.Kept.{Keeping, afresh}
use Rattle.correction_theory.specs.Run.{correct_all, keep_all}

-- what is kept beside sheet A after some corrections
abbrev after : List Correction → Keeping
after cs = keep_all 4 parents_a cs (afresh 4 distances_a parents_a)

-- the answer to one more
abbrev answer : List Correction → Correction → Answer
answer cs c = correction_tests 4 (correct_all 4 parents_a cs distances_a) parents_a c

abbrev marks : List Correction
marks = record { i = 0; j = 1; far = missing } ∷ record { i = 2; j = 0; far = missing } ∷ []

abbrev to_ten : List Correction
to_ten = record { i = 2; j = 0; far = 10 } ∷ []

abbrev worked : Bool
worked =
    same_list (table 5 (after []).sums) (pos 18 ∷ pos 18 ∷ pos 18 ∷ pos 22 ∷ pos 30 ∷ [])
    && same_list (table 5 (after []).counts) (pos 3 ∷ pos 3 ∷ pos 3 ∷ pos 3 ∷ pos 4 ∷ [])
    && same_list (table 5 (after to_ten).sums) (pos 21 ∷ pos 18 ∷ pos 21 ∷ pos 22 ∷ pos 33 ∷ [])
    && eqb (get_or (after to_ten).distances 1 0) 10
    && same_list (table 5 (after marks).sums) (pos 8 ∷ pos 15 ∷ pos 11 ∷ pos 22 ∷ pos 23 ∷ [])
    && same_list (table 5 (after marks).counts) (pos 1 ∷ pos 2 ∷ pos 2 ∷ pos 3 ∷ pos 3 ∷ [])

pub sheet-a : worked ≡ true
unfolding sum pairs ind table_from some first place pair_place known lift below parts
sheet-a = refl

pub answers :
    (answer [] (record { i = 4; j = 1; far = 50001 }) ≡ fault 24 Nowhere)
    × (answer marks (record { i = 0; j = 3; far = 50001 }) ≡ fault 7 Nowhere)
    × (answer marks (record { i = 0; j = 3; far = missing }) ≡ fault 26 (Edge 0))
unfolding sum pairs ind table_from some first place pair_place known lift below parts
answers = (refl, refl, refl)
