-- A sheet with names (RULES, The sheet with names): what it is asked, and where its names begin.
use Rattle.std.specs.Prelude.{◌≡◌, Bool, true, false, List, ℕ, Result, IfOk}
use Rattle.verdict.specs.Answer.{Answer, pass, fault, answer_of, test, ◌or_else◌}
use Rattle.verdict.specs.declared.Refusal.{Refusal}
use Rattle.verdict.specs.declared.Rule.TheVariants.{Plain}
use Rattle.records.specs.Form.{body_at, start_of, form_tests}
use Rattle.reading.specs.Holds.{strains_of}
use Rattle.reading.specs.Tests.{held_tests}
use Rattle.names.specs.Record.{names_out}

-- a sheet counts as one with names where the form of four records passes
abbrev pub is_pass : Answer → Bool
is_pass pass = true
is_pass (fault k p) = false

abbrev pub has_names : List ℕ → Bool
has_names s = is_pass (form_tests 4 s)

-- where the names begin: the body of the fourth record
abbrev pub names_from : List ℕ → ℕ
names_from s = body_at (start_of s 3)

-- 28: a name of the sheet not of the form or repeated
abbrev pub names_bad : List ℕ → Bool
names_bad s = names_out s (names_from s) (strains_of s)

-- 1 to 5 over four records; 28
abbrev pub label_tests : List ℕ → Answer
label_tests s = form_tests 4 s or_else test 28 (names_bad s)

-- what a sheet with names is asked: 1 to 5, 28, then what its first three records hold: 6 to 14, 16, 26
abbrev pub named_tests : List ℕ → Answer
named_tests s = label_tests s or_else held_tests Plain s

-- the form and the names: the answer, and where it passes where the names begin
pub record Labelled (s : List ℕ) (r : Result ℕ Refusal) : Type 0 where
  pub answer : answer_of r ≡ label_tests s
  pub from : IfOk r (λ k. k ≡ names_from s)
