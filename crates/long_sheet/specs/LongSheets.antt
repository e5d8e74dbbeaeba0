-- The whole answer to a long sheet's bytes (RULES, Long sheets).
use Rattle.std.specs.Prelude.{List, ℕ}
use Rattle.verdict.specs.Answer.{Answer, test, ◌or_else◌}
use Rattle.verdict.specs.declared.Rule.{Rule}
use Rattle.matrix.specs.Tests.{matrix_tests}
use Rattle.fit_theory.specs.Tests.{posted_tests}
use Rattle.front.specs.Holds.{strains_of, distances_of, parents_of}
use Rattle.front.specs.Tests.{strains_differ}
use Rattle.long_theory.specs.Tests.{long_proposal_tests}
use Rattle.long_records.specs.LongForm.{long_form_tests}
use Rattle.long_reading.specs.LongHolds.{denominator_digits_of, numerator_digits_of}
use Rattle.long_reading.specs.LongTests.{long_edges_differ, levels_out}

-- what the lengths of a long sheet are asked beside its matrix and its tree
abbrev pub long_lengths_of : Rule → List ℕ → Answer
long_lengths_of rule s = long_proposal_tests rule (strains_of s) (distances_of s) (parents_of s) (denominator_digits_of s) (numerator_digits_of s)

-- 1 to 14, 16, 22, 23, 26
abbrev pub long_sheet_tests : Rule → List ℕ → Answer
long_sheet_tests rule s =
    long_form_tests s
    or_else matrix_tests (strains_of s) (distances_of s)
    or_else test 8 (strains_differ s)
    or_else posted_tests (strains_of s) (distances_of s) (parents_of s)
    or_else test 11 (long_edges_differ s)
    or_else test 12 (levels_out s)
    or_else long_lengths_of rule s
