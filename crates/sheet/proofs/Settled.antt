-- The contract of `sheet_report` leaves one report with its two tables: two values that meet it on the same bytes are equal
-- (`one-sheet-report`), and so are two by different rules that give the same answer (`same-report`).
use mathlib.Core.Path.{◌≡◌, refl, sym, ◌∙◌, ap, ap₂, subst}
use mathlib.Core.List.{List}
use Prim.Native.Nat.{ℕ}
use lib.IntN.{ℤ}
use lib.ListN.{length}
use Rattle.std.specs.Prelude.{Result}
use Rattle.verdict.specs.declared.Refusal.{Refusal}
use Rattle.verdict.proofs.Answers.{one_result}
use Rattle.verdict.specs.declared.Rule.{Rule}
use Rattle.exact.specs.Table.{table}
use Rattle.tree_theory.proofs.EdgeTables.{one_table}
use Rattle.fit_theory.specs.Quantities.{rounded_of}
use Rattle.reading.specs.Holds.{strains_of, distances_of, parents_of, denominator_of, numerators_of}
use Rattle.reading.specs.Tests.{sheet_tests}
use Rattle.reporting.specs.declared.FitReport.{FitReport}
use Rattle.reporting.proofs.OneReport.{one-fit}
use Rattle.sheet.specs.declared.SheetFit.{SheetFit}
use Rattle.sheet.specs.Reports.{Fitted, SheetReport}

same-sheet : (x y : SheetFit) → x.report ≡ y.report → x.numerators ≡ y.numerators → x.rounded ≡ y.rounded → x ≡ y
same-sheet x y e f g = ap₂ (λ (a : FitReport) (b : List ℤ). whole a b x.rounded) e f ∙ ap (λ (c : List ℤ). whole y.report y.numerators c) g
  where
    whole : FitReport → List ℤ → List ℤ → SheetFit
    whole a b c = record { report = a; numerators = b; rounded = c }

module _ (s : List ℕ) where
  -- the rounded lengths, as the report on what the records hold has them
  abbrev lengths : List ℤ
  lengths = table (length (parents_of s)) (rounded_of (denominator_of s) (numerators_of s))

  same-fit : (rule rule' : Rule) (x y : SheetFit) → Fitted rule s x → Fitted rule' s y → x ≡ y
  same-fit rule rule' x y p q = same-sheet x y
      (one-fit rule rule' (strains_of s) (distances_of s) (parents_of s) (denominator_of s) (numerators_of s) lengths lengths x.report y.report p.reported q.reported)
      (one_table p.numerators q.numerators) (one_table p.rounded q.rounded)

  pub same-report : (rule rule' : Rule) → sheet_tests rule s ≡ sheet_tests rule' s → (x y : Result SheetFit Refusal) → SheetReport rule s x → SheetReport rule' s y → x ≡ y
  same-report rule rule' same x y p q = one_result (Fitted rule s) (Fitted rule' s) (same-fit rule rule') x y (p.answer ∙ same ∙ sym q.answer) p.fitted q.fitted

  pub one-sheet-report : (rule : Rule) (x y : Result SheetFit Refusal) → SheetReport rule s x → SheetReport rule s y → x ≡ y
  one-sheet-report rule x y p q = same-report rule rule refl x y p q
