-- The tests of a matrix, in their order (RULES, Numbers of refusal).
use Rattle.std.specs.Prelude.{Bool, not, ◌||◌, List, ℕ, eqb, ltb, length, get_or}
use Rattle.verdict.specs.Answer.{Answer, test, ◌or_else◌}
use Rattle.verdict.specs.Table.{some}
use Rattle.matrix.specs.Limits.{min_strains, max_strains, max_distance}
use Rattle.matrix.specs.Place.{pair_count, known}

-- 4: entries not N(N-1)/2
abbrev pub count_out : ℕ → List ℕ → Bool
count_out N ds = not (eqb (length ds) (pair_count N))

-- 6: N not 3 to 64
abbrev pub strains_out : ℕ → Bool
strains_out N = ltb N min_strains || ltb max_strains N

-- 7: a distance above 50,000; the mark of a missing pair is none
abbrev pub distance_out : List ℕ → Bool
distance_out ds = some (length ds) (λ k. ltb max_distance (known (get_or ds k 0)))

-- the answer that a matrix gets
abbrev pub matrix_tests : ℕ → List ℕ → Answer
matrix_tests N ds = test 4 (count_out N ds) or_else test 6 (strains_out N) or_else test 7 (distance_out ds)
