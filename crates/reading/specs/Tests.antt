-- The answer that a sheet gets: 1 to 5 for its form, then for what its records hold.
use Rattle.std.specs.Prelude.{Bool, not, ◌&&◌, List, ℕ, ◌-◌, eqb, ltb}
use Rattle.verdict.specs.Answer.{Answer, test, ◌or_else◌}
use Rattle.verdict.specs.declared.Rule.{Rule}
use Rattle.matrix.specs.Tests.{matrix_tests}
use Rattle.fit_theory.specs.Tests.{judge_tests}
use Rattle.records.specs.Form.{form_tests}
pub use Rattle.front.specs.Tests.{strains_differ, both_tests, pair_tests}
use Rattle.reading.specs.Holds.{strains_of, distances_of, vertices_of, parents_of, denominator_of, edges_of, numerators_of}

-- 11, in a sheet with lengths: K not V - 1
abbrev pub edges_differ : ℕ → List ℕ → Bool
edges_differ count s = ltb 2 count && not (eqb (edges_of s) (vertices_of s - 1))

-- what a sheet of so many records gets from its reader: 1 to 11, 16, 26
abbrev pub read_tests : ℕ → List ℕ → Answer
read_tests count s = form_tests count s or_else pair_tests count s or_else test 11 (edges_differ count s)

-- the tests over what the three records hold: 6 to 14, 16, 22, 23, 26
abbrev pub held_tests : Rule → List ℕ → Answer
held_tests rule s =
    matrix_tests (strains_of s) (distances_of s)
    or_else test 8 (strains_differ s)
    or_else judge_tests rule (strains_of s) (distances_of s) (parents_of s) (denominator_of s) (numerators_of s)

-- the whole answer to a sheet: 1 to 14, 16, 22, 23, 26
abbrev pub sheet_tests : Rule → List ℕ → Answer
sheet_tests rule s = form_tests 3 s or_else held_tests rule s
