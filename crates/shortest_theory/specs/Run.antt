-- RULES, Which of two trees is shorter, "A run": sheet after sheet, what is kept between them, and the line that each gets.
use Rattle.std.specs.Prelude.{Bool, true, cond, not, List, [], ◌∷◌, ℕ, suc}
use Rattle.std.specs.Int.Signed.{lt_z}
use Rattle.verdict.specs.Answer.{Answer, test, ◌or_else◌}
use Rattle.verdict.specs.declared.Rule.TheVariants.{Plain}
use Rattle.correction_theory.specs.Correction.{on_pass}
use Rattle.reading.specs.Tests.{sheet_tests}
use Rattle.comparison.specs.Matrices.{same_matrix}
use Rattle.planner.specs.Compared.{length_beside}
use Rattle.shortest_lines.specs.Answered.{line_of}

-- the winner so far: none, or its number among all sheets of the run and its bytes
pub data Winner : Type 0 where
  none : Winner
  won : ℕ → List ℕ → Winner

-- what is kept between two sheets: how many have come, and the winner among them
pub record State : Type 0 where
  pub count : ℕ
  pub winner : Winner

abbrev pub start : State
start = record { count = 0; winner = none }

-- whether a sheet's matrix is the winner's; before there is a winner any matrix will do
abbrev pub of_matrix : Winner → List ℕ → Bool
of_matrix none t = true
of_matrix (won k s) t = same_matrix s t

-- the answer to a sheet: its own tests, then 27 for another matrix
abbrev pub answer : Winner → List ℕ → Answer
answer w t = sheet_tests Plain t or_else test 27 (not (of_matrix w t))

-- whether an accepted sheet wins: there is no winner, or its tree length is less than the winner's
abbrev pub beats : List ℕ → Winner → Bool
beats t none = true
beats t (won k s) = lt_z (length_beside t s) (length_beside s t)

-- the winner where the sheet t with the number n is accepted beside it
abbrev pub shorter : Winner → ℕ → List ℕ → Winner
shorter w n t = cond (beats t w) (won n t) w

-- the winner after a sheet with the number n: a refused one changes nothing
abbrev pub winner_after : Winner → ℕ → List ℕ → Winner
winner_after w n t = on_pass (answer w t) (shorter w n t) w

-- one sheet: it takes the next number, accepted or not
abbrev pub step : State → List ℕ → State
step r t = record { count = suc r.count; winner = winner_after r.winner r.count t }

-- sheet after sheet, the first in the list first
abbrev pub run : State → List (List ℕ) → State
run r [] = r
run r (t ∷ ts) = run (step r t) ts

-- the winner's number, 0 where there is none
abbrev pub number_of : Winner → ℕ
number_of none = 0
number_of (won k s) = k

-- the line that a sheet gets
abbrev pub line_at : State → List ℕ → List ℕ
line_at r t = line_of (answer r.winner t) (number_of (step r t).winner)
