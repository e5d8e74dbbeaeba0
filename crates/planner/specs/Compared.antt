-- RULES, Which of two trees is shorter: two sheets compared, and which of them is chosen.
use Rattle.std.specs.Prelude.{◌≡◌, not, List, ℕ, ℤ, pos, ◌*ℤ◌, Result, Ok, Err}
use Rattle.exact.specs.Order.{◌≤ᶻ◌, ◌<ᶻ◌}
use Rattle.verdict.specs.Answer.{Answer, pass, refusal_of, test, ◌or_else◌}
use Rattle.verdict.specs.declared.Refusal.{Refusal}
use Rattle.verdict.specs.declared.Rule.TheVariants.{Plain}
use Rattle.fit_theory.specs.Quantities.{tree_length}
use Rattle.reading.specs.Holds.{denominator_of, numerators_of}
use Rattle.reading.specs.Tests.{sheet_tests}
use Rattle.comparison.specs.Matrices.{same_matrix}
use Rattle.planner.specs.declared.Winner.{Winner}
use Rattle.planner.specs.declared.Winner.TheVariants.{First, Second}

-- which of two sheets is chosen, or why none is
abbrev pub Choice : Type 0
Choice = Result Winner Refusal

-- the tests of two sheets: the first sheet's, then the second's, then 27 where their matrices are not equal
abbrev pub compared_tests : List ℕ → List ℕ → Answer
compared_tests s t = sheet_tests Plain s or_else sheet_tests Plain t or_else test 27 (not (same_matrix s t))

-- the tree length of s as a numerator over the product of the two denominators
abbrev pub length_beside : List ℕ → List ℕ → ℤ
length_beside s t = tree_length (numerators_of s) *ℤ pos (denominator_of t)

-- which sheet is chosen: none where a test refuses; the second where its tree length is less, otherwise the first
abbrev pub Chosen : List ℕ → List ℕ → Choice → Type 0
Chosen s t (Err q) = refusal_of q ≡ compared_tests s t
Chosen s t (Ok First) = (compared_tests s t ≡ pass) × (length_beside s t ≤ᶻ length_beside t s)
Chosen s t (Ok Second) = (compared_tests s t ≡ pass) × (length_beside t s <ᶻ length_beside s t)
