-- What is written is the print that the answer asks for.
use mathlib.Core.Path.{◌≡◌, sym, subst}
use mathlib.Core.List.{List}
use Prim.Native.Nat.{ℕ}
use lib.IntN.{ℤ}
use Rattle.verdict.specs.Answer.{Answer, pass, refusal_of, reason_number}
use Rattle.verdict.specs.declared.Refusal.{Refusal}
use Rattle.verdict.specs.declared.Rule.{Rule}
use Rattle.std.specs.Prelude.{Err}
use Rattle.fit_theory.specs.Stands.{Posted}
use Rattle.writing.specs.Text.{Wrote}
use Rattle.lines.specs.Lines.{refused_line}
use Rattle.answer_lines.specs.Texts.{by_answer}
use Rattle.long_theory.specs.Long.{LongStands}
use Rattle.long_theory.specs.Tests.{long_proposal_tests}
use Rattle.long_theory.proofs.Exactly.{long-proposal-stands}
use Rattle.long_reading.specs.LongReads.{LongAnswer}
use Rattle.long_reading.specs.LongTests.{long_read_tests}
use Rattle.long_sheet.specs.LongSheets.{long_lengths_of, long_sheet_tests}
use Rattle.long_sheet.proofs.Whole.{lengths-asked, refused-whole}
use Rattle.long_reporting.specs.declared.LongReport.{LongReport}
use Rattle.long_reporting.specs.Reported.{LongReported}
use Rattle.long_fit_lines.specs.LongTexts.{long_fit_of, long_report_text}
use Rattle.long_fit_lines.proofs.Texts.{long-report-is}
use Rattle.long_prints.specs.LongPrints.{fit_of_long, long_text}

module _ {before after : List ℕ} {next : ℕ} where
  -- a print by the answer that was given
  by_answer_lem : (a b : Answer) (fit : List ℕ) → a ≡ b → Wrote before after 0 (by_answer a fit) next → Wrote before after 0 (by_answer b fit) next
  by_answer_lem a b fit e w = subst (λ (x : Answer). Wrote before after 0 (by_answer x fit) next) e w

  -- the line of a refusal, by its number
  refused_lem : (r : Refusal) (b : Answer) (fit : List ℕ) (number : ℕ) → refusal_of r ≡ b → number ≡ reason_number r.reason → Wrote before after 0 (refused_line number r.place) next → Wrote before after 0 (by_answer b fit) next
  refused_lem r b fit number e f w = by_answer_lem (refusal_of r) b fit e (subst (λ (k : ℕ). Wrote before after 0 (refused_line k r.place) next) f w)

  -- ---- lengths beside a matrix and a tree
  module _ (rule : Rule) (N : ℕ) (ds ps Ds : List ℕ) (ns : List ℤ) where
    pub lengths-refused : (r : Refusal) (number : ℕ) → refusal_of r ≡ long_proposal_tests rule N ds ps Ds ns → number ≡ reason_number r.reason → Wrote before after 0 (refused_line number r.place) next
        → Wrote before after 0 (by_answer (long_proposal_tests rule N ds ps Ds ns) (long_fit_of rule N ds ps Ds ns)) next
    lengths-refused r number e f w = refused_lem r (long_proposal_tests rule N ds ps Ds ns) (long_fit_of rule N ds ps Ds ns) number e f w

    pub lengths-accepted : (x : LongReport) → pass ≡ long_proposal_tests rule N ds ps Ds ns → LongReported rule N ds ps Ds ns x → Wrote before after 0 (long_report_text rule Ds ns x) next
        → Wrote before after 0 (by_answer (long_proposal_tests rule N ds ps Ds ns) (long_fit_of rule N ds ps Ds ns)) next
    lengths-accepted x e p w = by_answer_lem pass (long_proposal_tests rule N ds ps Ds ns) (long_fit_of rule N ds ps Ds ns) e
        (subst (λ (t : List ℕ). Wrote before after 0 t next) (long-report-is rule N ds ps Ds ns x p) w)

  -- ---- a sheet
  module _ (rule : Rule) (s : List ℕ) where
    pub sheet-refused : (q : Refusal) (number : ℕ) → LongAnswer s (Err q) → number ≡ reason_number q.reason → Wrote before after 0 (refused_line number q.place) next → Wrote before after 0 (long_text rule s) next
    sheet-refused q number a f w = refused_lem q (long_sheet_tests rule s) (fit_of_long rule s) number (refused-whole rule s q a) f w

    pub sheet-read : long_read_tests s ≡ pass → Wrote before after 0 (by_answer (long_lengths_of rule s) (fit_of_long rule s)) next → Wrote before after 0 (long_text rule s) next
    sheet-read z w = by_answer_lem (long_lengths_of rule s) (long_sheet_tests rule s) (fit_of_long rule s) (sym (lengths-asked rule s z)) w

-- lengths that are accepted stand
pub lengths_stand : (rule : Rule) (N : ℕ) (ds ps Ds : List ℕ) (ns : List ℤ) → pass ≡ long_proposal_tests rule N ds ps Ds ns → Posted N ds ps → LongStands rule N ds ps Ds ns
lengths_stand rule N ds ps Ds ns e p = long-proposal-stands rule N ds ps Ds ns p (sym e)
