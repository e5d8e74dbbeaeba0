-- The print as a function of a long sheet's bytes.
use Rattle.std.specs.Prelude.{List, ℕ}
use Rattle.verdict.specs.declared.Rule.{Rule}
use Rattle.front.specs.Holds.{strains_of, distances_of, parents_of}
use Rattle.answer_lines.specs.Texts.{by_answer}
use Rattle.long_reading.specs.LongHolds.{denominator_digits_of, numerator_digits_of}
use Rattle.long_sheet.specs.LongSheets.{long_sheet_tests}
use Rattle.long_fit_lines.specs.LongTexts.{long_fit_of}

-- the print of what an accepted long sheet holds
abbrev pub fit_of_long : Rule → List ℕ → List ℕ
fit_of_long rule s = long_fit_of rule (strains_of s) (distances_of s) (parents_of s) (denominator_digits_of s) (numerator_digits_of s)

-- the print of a long sheet by a rule
abbrev pub long_text : Rule → List ℕ → List ℕ
long_text rule s = by_answer (long_sheet_tests rule s) (fit_of_long rule s)
