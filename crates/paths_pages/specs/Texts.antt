-- The print of the pairs of a sheet as a function of its bytes (RULES, The pairs of a fit): of a sheet with names by its names, of any other by
-- the numbers of its strains; or the line of its refusal.
use Rattle.std.specs.Prelude.{◌≡◌, cond, List, ℕ, pos, Result, Ok, IfOk, length}
use Rattle.exact.specs.Table.{entry_of}
use Rattle.exact.specs.LeastSquares.{ClosePaths}
use Rattle.verdict.specs.Answer.{Answer, pass, answer_of, ◌or_else◌}
use Rattle.verdict.specs.declared.Refusal.{Refusal}
use Rattle.verdict.specs.declared.Rule.TheVariants.{Plain}
use Rattle.fit_theory.specs.Quantities.{parts_of, rounded_of}
use Rattle.writing.specs.Text.{decimal}
use Rattle.answer_lines.specs.Texts.{by_answer}
use Rattle.reading.specs.Holds.{strains_of, distances_of, parents_of, denominator_of, numerators_of}
use Rattle.reading.specs.declared.Sheet.{Sheet}
use Rattle.reading.specs.Reads.{SheetAnswer}
use Rattle.reading.specs.Tests.{held_tests, sheet_tests}
use Rattle.records.specs.Form.{form_tests}
use Rattle.names.specs.Record.{name_of}
use Rattle.sheet_names.specs.Labels.{has_names, names_from, named_tests}
use Rattle.pair_lines.specs.Lines.{pairs_text}

-- the pairs of what an accepted sheet holds, by what its strains are called
abbrev pub pairs_of_sheet : (ℕ → List ℕ) → List ℕ → List ℕ
pairs_of_sheet label s = pairs_text label (strains_of s) (distances_of s) (parents_of s) (denominator_of s) (numerators_of s)

abbrev pub paths_text : List ℕ → List ℕ
paths_text s =
    cond (has_names s)
    (by_answer (named_tests s) (pairs_of_sheet (name_of s (names_from s)) s))
    (by_answer (sheet_tests Plain s) (pairs_of_sheet decimal s))

-- the answer that the sheet gets
abbrev pub paths_tests : List ℕ → Answer
paths_tests s = cond (has_names s) (named_tests s) (sheet_tests Plain s)

-- of an accepted sheet: for every pair, measured or not, the path over the rounded lengths, divided by 1000, is within h/2000 of p/D
abbrev pub PathsClose : List ℕ → Type 0
PathsClose s = paths_tests s ≡ pass → ClosePaths (length (parents_of s)) (parts_of (parents_of s)) (pos (denominator_of s)) (entry_of (numerators_of s)) (rounded_of (denominator_of s) (numerators_of s))

-- a sheet of so many records judged by the plain rule, and what it holds where it stands
pub record JudgedSheet (count : ℕ) (s : List ℕ) (r : Result Sheet Refusal) : Type 0 where
  pub answer : answer_of r ≡ (form_tests count s or_else held_tests Plain s)
  pub read : IfOk r (λ x. SheetAnswer count s (Ok x))
