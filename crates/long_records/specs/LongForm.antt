-- The form of a long sheet (RULES, Long sheets): the matrix, the tree and the long lengths, one behind the other, and nothing else.
use Rattle.std.specs.Prelude.{List, ℕ, ◌+◌, ◌*◌, ltb, length}
use Rattle.verdict.specs.declared.Place.TheVariants.{Byte}
use Rattle.verdict.specs.Answer.{Answer, test, test_at, ◌or_else◌}
use Rattle.matrix.specs.Limits.{max_pairs}
use Rattle.tree_theory.specs.Limits.{max_edges}
use Rattle.records.specs.Form.{head_size, long_kind, long_length, start_of, record_tests, records_tests}
use Rattle.long_theory.specs.Long.{max_levels}

-- the longest long sheet that can be accepted: three heads, and the bodies of the largest matrix, tree and long lengths
abbrev pub max_long : ℕ
max_long = 3 * head_size + (2 + 2 * max_pairs) + (4 + max_edges) + long_length max_levels max_edges

-- 2, 3, 4 for the matrix and the tree, then for the long lengths
abbrev pub long_records_tests : List ℕ → Answer
long_records_tests s = records_tests s 2 or_else record_tests s (start_of s 2) long_kind

-- the form: 1; 2, 3, 4 for each record in turn; 5 at the first byte behind the last
abbrev pub long_form_tests : List ℕ → Answer
long_form_tests s =
    test 1 (ltb max_long (length s))
    or_else long_records_tests s
    or_else test_at 5 (Byte (start_of s 3)) (ltb (start_of s 3) (length s))
