-- The report on a sheet's bytes: the report of what its records hold, with the numerators and the rounded lengths in two tables.
use Rattle.std.specs.Prelude.{◌≡◌, List, ℕ, Result, IfOk, length}
use Rattle.exact.specs.Table.{table, entry_of}
use Rattle.verdict.specs.Answer.{answer_of}
use Rattle.verdict.specs.declared.Refusal.{Refusal}
use Rattle.verdict.specs.declared.Rule.{Rule}
use Rattle.tree_theory.specs.EdgeTable.{EdgeTable}
use Rattle.fit_theory.specs.Quantities.{rounded_of}
use Rattle.reading.specs.Holds.{strains_of, distances_of, parents_of, denominator_of, numerators_of}
use Rattle.reading.specs.Tests.{sheet_tests}
use Rattle.reporting.specs.Answers.{Reported}
use Rattle.sheet.specs.declared.SheetFit.{SheetFit}

-- an accepted sheet: its report, and the two tables
pub record Fitted (rule : Rule) (s : List ℕ) (r : SheetFit) : Type 0 where
  pub reported : Reported rule (strains_of s) (distances_of s) (parents_of s) (denominator_of s) (numerators_of s) (table (length (parents_of s)) (rounded_of (denominator_of s) (numerators_of s))) r.report
  pub numerators : EdgeTable (length (parents_of s)) (entry_of (numerators_of s)) r.numerators
  pub rounded : EdgeTable (length (parents_of s)) (rounded_of (denominator_of s) (numerators_of s)) r.rounded

-- the whole answer
pub record SheetReport (rule : Rule) (s : List ℕ) (r : Result SheetFit Refusal) : Type 0 where
  pub answer : answer_of r ≡ sheet_tests rule s
  pub fitted : IfOk r (λ x. Fitted rule s x)
