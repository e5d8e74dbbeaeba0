-- The text that an answer asks for, of a report and of a direct fit.
use Rattle.std.specs.Prelude.{List, [], ℕ, ℤ, Result, Ok, Err, length, get_or}
use Rattle.exact.specs.Table.{entry_of}
use Rattle.verdict.specs.Answer.{Answer, pass, fault, refusal_of}
use Rattle.verdict.specs.declared.Refusal.{Refusal}
use Rattle.verdict.specs.declared.Rule.{Rule}
use Rattle.mean.specs.Mean.{mean_of}
use Rattle.fit_theory.specs.Quantities.{tree_length, f_of, r_of, h_of, rounded_of}
use Rattle.lines.specs.Lines.{refused_line, fit_text, resolved_text}
use Rattle.sheet.specs.declared.SheetFit.{SheetFit}
use Rattle.unfitted_sheet.specs.declared.UnfittedFit.{UnfittedFit}

-- a print by its answer: the fit, or `refused`, the number and the place
abbrev pub by_answer : Answer → List ℕ → List ℕ
by_answer pass fit = fit
by_answer (fault k p) fit = refused_line k p

-- the print of the lengths ns over D, of the tree ps and the matrix ds of N strains: fit or fit0, N K D; edge, n, m for each edge; the tree
-- length's numerator; F, R, H; the mean square
abbrev pub fit_of : Rule → ℕ → List ℕ → List ℕ → ℕ → List ℤ → List ℕ
fit_of rule N ds ps D ns = fit_text rule N (length ps) D (entry_of ns) (rounded_of D ns) (tree_length ns) (f_of N ds ps D ns) (r_of N ds ps D ns) (h_of N ds ps) (mean_of N ds (length ps) D)

-- a print of what was found, or `refused`, the number and the place
abbrev pub by_result : {A : Type 0} → (A → List ℕ) → Result A Refusal → List ℕ
by_result print (Ok x) = print x
by_result print (Err r) = by_answer (refusal_of r) []

-- of a report, with its two tables
abbrev pub of_report : Rule → SheetFit → List ℕ
of_report rule x = fit_text rule x.report.strains x.report.edges x.report.denominator (entry_of x.numerators) (entry_of x.rounded) x.report.length x.report.f x.report.r x.report.h x.report.mean

abbrev pub report_text : Rule → Result SheetFit Refusal → List ℕ
report_text rule r = by_result (of_report rule) r

-- of a direct fit, with its three tables
abbrev pub of_direct : UnfittedFit → List ℕ
of_direct x = resolved_text x.strains x.edges (entry_of x.tops) (λ v. get_or x.bottoms v 0) (entry_of x.rounded) x.fit.r x.fit.h

abbrev pub direct_text : Result UnfittedFit Refusal → List ℕ
direct_text r = by_result of_direct r
