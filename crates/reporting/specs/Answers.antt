-- What the report gives.
use Rattle.std.specs.Prelude.{◌≡◌, List, ℕ, ◌*◌, ◌≤◌, ℤ, nat_abs, Result, IfOk, IfErr, length}
use Rattle.exact.specs.Table.{table}
use Rattle.verdict.specs.Answer.{Answer, answer_of, test, ◌or_else◌}
use Rattle.verdict.specs.declared.Rule.{Rule}
use Rattle.verdict.specs.declared.Refusal.{Refusal}
use Rattle.mean.specs.Mean.{mean_of}
use Rattle.tree_theory.specs.Limits.{max_edges}
use Rattle.lengths.specs.Limits.{max_numerator}
use Rattle.fit_theory.specs.Quantities.{rounded_of, tree_length, f_of, r_of, h_of}
use Rattle.fit_theory.specs.Stands.{Stands, Least}
use Rattle.fit_theory.specs.Tests.{buffer_out, proposal_tests, report_tests}
use Rattle.reporting.specs.declared.FitReport.{FitReport}

-- no tree length is farther from 0, over its denominator
abbrev pub max_tree_length : ℕ
max_tree_length = max_edges * max_numerator

-- the numbers of an accepted fit, that it stands, and what RULES, Least squares says of it
pub record Reported (rule : Rule) (N : ℕ) (ds ps : List ℕ) (D : ℕ) (ns : List ℤ) (after : List ℤ) (x : FitReport) : Type 0 where
  pub strains : x.strains ≡ N
  pub edges : x.edges ≡ length ps
  pub denominator : x.denominator ≡ D
  pub total : x.length ≡ tree_length ns
  pub f : x.f ≡ f_of N ds ps D ns
  pub r : x.r ≡ r_of N ds ps D ns
  pub h : x.h ≡ h_of N ds ps
  -- what F is over in the mean square, or none
  pub mean : x.mean ≡ mean_of N ds (length ps) D
  pub rounded : after ≡ table (length ps) (rounded_of D ns)
  pub stands : Stands rule N ds ps D ns
  pub least : Least rule N ds ps D ns
  pub near : nat_abs (tree_length ns) ≤ max_tree_length

-- a report of the answer a: the numbers and the rounded lengths where it passes, otherwise nothing and the buffer as it was
pub record Report (a : Answer) (rule : Rule) (N : ℕ) (ds ps : List ℕ) (D : ℕ) (ns before after : List ℤ) (r : Result FitReport Refusal) : Type 0 where
  pub answer : answer_of r ≡ a
  pub reported : IfOk r (λ x. Reported rule N ds ps D ns after x)
  pub kept : IfErr r (λ _. after ≡ before)

-- of lengths beside a matrix and a tree that pass: 11 to 15, 22, 23
abbrev pub proposal_report_tests : Rule → ℕ → List ℕ → List ℕ → ℕ → List ℤ → ℕ → Answer
proposal_report_tests rule N ds ps D ns size = proposal_tests rule N ds ps D ns or_else test 15 (buffer_out size (length ps))

abbrev pub ProposalReport : (rule : Rule) (N : ℕ) → (ds ps : List ℕ) → (D : ℕ) → (ns before after : List ℤ) → Result FitReport Refusal → Type 0
ProposalReport rule N ds ps D ns before after r = Report (proposal_report_tests rule N ds ps D ns (length before)) rule N ds ps D ns before after r

-- of all that is lent: 4, 6 to 16, 22, 23, 26
abbrev pub ReportAnswer : (rule : Rule) (N : ℕ) → (ds ps : List ℕ) → (D : ℕ) → (ns before after : List ℤ) → Result FitReport Refusal → Type 0
ReportAnswer rule N ds ps D ns before after r = Report (report_tests rule N ds ps D ns (length before)) rule N ds ps D ns before after r
