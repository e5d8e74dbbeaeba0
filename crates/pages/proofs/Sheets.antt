-- The print of a sheet's report is the print of the sheet.
-- `few-edges`: what the print asks. `shown-is`: the text of the report is the print (RULES, The print) of what the
-- sheet holds. `other_lines`: where both rules accept a sheet, its two prints differ in the first word only.
use mathlib.Core.Path.{◌≡◌, refl, subst}
use mathlib.Core.List.{List, ◌++◌}
use Prim.Native.Nat.{ℕ, ◌≤◌}
use native.Mathlib.Omega.{arith}
use lib.IntN.{ℤ}
use lib.ListN.{length, drop}
use Rattle.verdict.specs.Answer.{pass}
use Rattle.verdict.specs.declared.Rule.{Rule}
use Rattle.verdict.specs.declared.Rule.TheVariants.{Plain, Drawable}
use Rattle.verdict.specs.declared.Refusal.{Refusal}
use Rattle.std.specs.Prelude.{Result, Ok, Err, IfOk}
use Rattle.exact.specs.Table.{entry_of}
use Rattle.mean.specs.Mean.{Mean}
use Rattle.tree_theory.specs.Limits.{max_edges}
use Rattle.writing.specs.Text.{Wrote}
use Rattle.lines.specs.Lines.{fit_text, fit_word, fit_text_by}
use Rattle.lines.specs.Page.{page_size}
use Rattle.lines.proofs.Sizes.{text-length}
use Rattle.reading.specs.Holds.{strains_of, distances_of, parents_of, denominator_of, numerators_of}
use Rattle.reading.specs.Tests.{sheet_tests}
use Rattle.sheet.proofs.Laws.{sheet-stands}
use Rattle.sheet.specs.declared.SheetFit.{SheetFit}
use Rattle.sheet.specs.Reports.{Fitted, SheetReport}
use Rattle.answer_lines.specs.Texts.{of_report, report_text}
use Rattle.answer_lines.proofs.Fits.{report-is}
use Rattle.pages.specs.Texts.{fit_of_sheet, sheet_text, Shown}
use Rattle.pages.proofs.Texts.{text-by-answer, fits_page, whole_page}

module _ (rule : Rule) (s : List ℕ) where
  text-is : (x : SheetFit) → Fitted rule s x → of_report rule x ≡ fit_of_sheet rule s
  text-is x fit = report-is rule (strains_of s) (distances_of s) (parents_of s) (denominator_of s) (numerators_of s) _ x.report fit.reported (entry_of x.numerators) (entry_of x.rounded) fit.numerators.entries fit.rounded.entries

  pub few-edges : (r : Result SheetFit Refusal) → SheetReport rule s r → IfOk r (λ x. x.report.edges ≤ max_edges)
  few-edges (Ok x) a = let b = a.fitted.reported in omega (arith, b.edges, b.stands.lengths.few)
  few-edges (Err q) a = tt

  pub shown-is : (r : Result SheetFit Refusal) → SheetReport rule s r → report_text rule r ≡ sheet_text rule s
  shown-is (Ok x) a = text-by-answer (of_report rule) (sheet_tests rule s) (fit_of_sheet rule s) (Ok x) a.answer (text-is x a.fitted)
  shown-is (Err q) a = text-by-answer (of_report rule) (sheet_tests rule s) (fit_of_sheet rule s) (Err q) a.answer tt

  -- so what is written is the print of the sheet
  pub shows-sheet : (r : Result SheetFit Refusal) → SheetReport rule s r → (before after : List ℕ) (next : ℕ) → page_size ≤ length before → Wrote before after 0 (report_text rule r) next
      → Shown (sheet_text rule s) before after next
  shows-sheet r a before after next h w = whole_page page_size (sheet_text rule s) before after next
      (fits_page (sheet_tests rule s) (fit_of_sheet rule s) (λ z. text-length _ _ (length (parents_of s)) _ _ _ _ _ _ _ _ (sheet-stands s rule z).lengths.few))
      h (subst (λ (t : List ℕ). Wrote before after 0 t next) (shown-is r a) w)

-- fit has three bytes, and behind the word every byte is the same by both rules
behind-word : (rule : Rule) (N K D : ℕ) (n m : ℕ → ℤ) (total F R H : ℤ) (mean : Mean) → fit_text rule N K D n m total F R H mean ≡ fit_word rule ++ drop 3 (fit_text Plain N K D n m total F R H mean)
unfolding fit_text_by
behind-word Plain N K D n m total F R H mean = refl
behind-word Drawable N K D n m total F R H mean = refl

pub other_lines : (s : List ℕ) → sheet_tests Plain s ≡ pass → sheet_tests Drawable s ≡ pass → sheet_text Drawable s ≡ fit_word Drawable ++ drop 3 (sheet_text Plain s)
other_lines s z y = rw (z, y) (behind-word Drawable _ _ _ _ _ _ _ _ _ _)
