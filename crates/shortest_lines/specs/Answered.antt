-- RULES, Which of two trees is shorter, "A run": the line that a sheet gets.
use Rattle.std.specs.Prelude.{List, [], ◌∷◌, ℕ, pos, Result, Ok, Err}
use Rattle.verdict.specs.Answer.{Answer, pass, fault, refusal_of}
use Rattle.verdict.specs.declared.Refusal.{Refusal}
use Rattle.lines.specs.Lines.{line, refused_line}

-- "best"
abbrev pub best_word : List ℕ
best_word = 98 ∷ 101 ∷ 115 ∷ 116 ∷ []

-- the line of an answer: best and the winner's number after the sheet, or the refusal with its place
abbrev pub line_of : Answer → ℕ → List ℕ
line_of pass k = line best_word (pos k ∷ [])
line_of (fault n p) k = refused_line n p

-- the same by the winner's number or the refusal
abbrev pub line_of_result : Result ℕ Refusal → List ℕ
line_of_result (Ok k) = line_of pass k
line_of_result (Err q) = line_of (refusal_of q) 0
