-- The answer that a long sheet gets from its reader: 1 to 5 for its form, then for its matrix and its tree, then for the counts of its lengths.
use Rattle.std.specs.Prelude.{Bool, not, ◌||◌, List, ℕ, ◌-◌, eqb, ltb}
use Rattle.verdict.specs.Answer.{Answer, test, ◌or_else◌}
use Rattle.front.specs.Holds.{vertices_of}
use Rattle.front.specs.Tests.{pair_tests}
use Rattle.long_theory.specs.Long.{max_levels}
use Rattle.long_records.specs.LongForm.{long_form_tests}
use Rattle.long_reading.specs.LongHolds.{levels_of, long_edges_of}

-- 11: K not V - 1
abbrev pub long_edges_differ : List ℕ → Bool
long_edges_differ s = not (eqb (long_edges_of s) (vertices_of s - 1))

-- 12, here: no digits, or more than 52
abbrev pub levels_out : List ℕ → Bool
levels_out s = eqb (levels_of s) 0 || ltb max_levels (levels_of s)

-- both counts
abbrev pub long_counts_tests : List ℕ → Answer
long_counts_tests s = test 11 (long_edges_differ s) or_else test 12 (levels_out s)

-- what a long sheet gets from its reader: 1 to 12, 16, 26; with lengths, so matrix and tree are asked together
abbrev pub long_read_tests : List ℕ → Answer
long_read_tests s = long_form_tests s or_else pair_tests 3 s or_else long_counts_tests s
