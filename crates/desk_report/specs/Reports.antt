-- The report of a bench's table: of the call's answer by the definitions, on what is posted and the table that stands in the bench's name.
use Rattle.std.specs.Prelude.{◌≡◌, List, ℕ, ℤ, length, Result, IfOk, IfErr}
use Rattle.verdict.specs.Answer.{answer_of}
use Rattle.verdict.specs.declared.Refusal.{Refusal}
use Rattle.verdict.specs.declared.Rule.TheVariants.{Plain}
use Rattle.reporting.specs.declared.FitReport.{FitReport}
use Rattle.reporting.specs.Answers.{Reported}
use Rattle.desk_theory.specs.Desk.{answer, report}
use Rattle.desk.specs.declared.Posting.{Posting}
use Rattle.desk.specs.declared.Table.{Table}
use Rattle.desk.specs.declared.Desk.{Desk}
use Rattle.desk.specs.declared.Standing.{Standing}
use Rattle.desk.specs.Held.{matrix_of, tree_of, numerators_of, desk_of, IsStanding}

-- the numbers of a table on a posting
abbrev pub OnPosting : Posting → Table → List ℤ → FitReport → Type 0
OnPosting p t after x = Reported Plain p.n (matrix_of p) (tree_of p) t.d (numerators_of p.edges t) after x

-- where the call passes, those of the table that stands, on what is posted; a refusal leaves the buffer as it was
pub record DeskReport (d : Desk) (b : ℕ) (before after : List ℤ) (r : Result FitReport Refusal) : Type 0 where
  pub answer : answer_of r ≡ answer (desk_of d) (report b (length before))
  pub reported : IfOk r (λ x. (s : Standing) × IsStanding d b s × OnPosting s.posted.posting s.table after x)
  pub kept : IfErr r (λ _. after ≡ before)
