-- The answer that the matrix and the tree of a sheet get.
use Rattle.std.specs.Prelude.{Bool, cond, not, List, ℕ, eqb, ltb}
use Rattle.verdict.specs.Answer.{Answer, test, ◌or_else◌}
use Rattle.matrix.specs.Tests.{matrix_tests}
use Rattle.fit_theory.specs.Tests.{shape_tests, posted_tests}
use Rattle.front.specs.Holds.{strains_of, distances_of, tree_strains_of, parents_of}

-- 8, here also: the tree's N differs from the matrix's
abbrev pub strains_differ : List ℕ → Bool
strains_differ s = not (eqb (tree_strains_of s) (strains_of s))

-- what the matrix and the tree of a sheet of so many records are asked: together where lengths follow, each by itself where none do
abbrev pub both_tests : ℕ → ℕ → List ℕ → List ℕ → Answer
both_tests count N ds ps = cond (ltb 2 count) (posted_tests N ds ps) (shape_tests N ds ps)

-- 6 to 10, 16, 26: the matrix, whether the tree is for as many strains, then both
abbrev pub pair_tests : ℕ → List ℕ → Answer
pair_tests count s =
    matrix_tests (strains_of s) (distances_of s)
    or_else test 8 (strains_differ s)
    or_else both_tests count (strains_of s) (distances_of s) (parents_of s)
