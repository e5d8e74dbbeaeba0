-- `sheet_report`: a refusal of the reader is the sheet's; what it accepts is reported, with the two tables.
use native.Mathlib.Omega.{arith}
use Rattle.std.specs.Prelude.{Err}
use Rattle.verdict.proofs.Answers.{handed_on}
use Rattle.sheet.specs.Reports.{SheetReport}
use Rattle.fit_theory.specs.Stands.{Posted}
use Rattle.reading.proofs.Parts.{Parts, Lengths, read-parts, read-posted, read-lengths, to-parts}
use Rattle.reading.proofs.Whole.{refused-whole}
use Rattle.sheet.proofs.Fits.{front-there, front-size, asked, fitted-sheet}
use Rattle.sheet.proofs.sheet_report.Goals as goal
use Rattle.sheet.proofs.sheet_report.Goals.{In_ok-sheet}

-- what was read, where the reader accepts
held : (c : In_ok-sheet) → Parts c.args.s.now c.in_ok-sheet.sheet
held c = read-parts 3 _ _ (omega arith) c.in_ok-sheet.ensures

proposed : (c : In_ok-sheet) → Lengths c.args.s.now c.in_ok-sheet.sheet
proposed c = read-lengths 3 _ _ (omega arith) c.in_ok-sheet.ensures

pub returns-in_err-sheet : goal.returns-in_err-sheet
returns-in_err-sheet c = let a = c.args in
    handed_on (SheetReport a.rule a.s.now) _ _ c.from_residual.ensures (record { answer = refused-whole a.rule a.s.now _ c.in_err-sheet.ensures.answer; fitted = tt })

pub slice_bounds-distances-end : goal.slice_bounds-distances-end
slice_bounds-distances-end c = (held (goal.at.slice_bounds-distances-end c).In_ok-sheet).room

pub slice_bounds-report_proposal-end : goal.slice_bounds-report_proposal-end
slice_bounds-report_proposal-end c = (held (goal.at.slice_bounds-report_proposal-end c).In_ok-sheet).size

pub slice_bounds-report_proposal-count : goal.slice_bounds-report_proposal-count
slice_bounds-report_proposal-count c = (held (goal.at.slice_bounds-report_proposal-count c).In_ok-sheet).starts

pub slice_bounds-report_proposal-start : goal.slice_bounds-report_proposal-start
slice_bounds-report_proposal-start c = (held (goal.at.slice_bounds-report_proposal-start c).In_ok-sheet).starts

pub slice_bounds-report_proposal-end-2 : goal.slice_bounds-report_proposal-end-2
slice_bounds-report_proposal-end-2 c = (held (goal.at.slice_bounds-report_proposal-end-2 c).In_ok-sheet).ends

pub slice_bounds-numerators-end : goal.slice_bounds-numerators-end
slice_bounds-numerators-end c = (proposed (goal.at.slice_bounds-numerators-end c).In_ok-sheet).room

pub slice_bounds-report_proposal-end-3 : goal.slice_bounds-report_proposal-end-3
slice_bounds-report_proposal-end-3 c = (proposed (goal.at.slice_bounds-report_proposal-end-3 c).In_ok-sheet).size

pub slice_bounds-rounded-end : goal.slice_bounds-rounded-end
slice_bounds-rounded-end c = front-there c.args.rule _ c.in_ok-sheet.sheet c.in_ok-sheet.ensures _ c.filled-rounded.ensures.throughout

pub slice_bounds-report_proposal-end-4 : goal.slice_bounds-report_proposal-end-4
slice_bounds-report_proposal-end-4 c = front-size c.args.rule _ c.in_ok-sheet.sheet c.in_ok-sheet.ensures _ c.filled-rounded.ensures.throughout

pub report_proposal-requires : goal.report_proposal-requires
report_proposal-requires c = to-parts (held (goal.at.report_proposal-requires c).In_ok-sheet) Posted (read-posted 3 _ _ (omega arith) c.in_ok-sheet.ensures)

pub returns-in_err-report : goal.returns-in_err-report
returns-in_err-report c = let a = c.args in
    handed_on (SheetReport a.rule a.s.now) _ _ c.from_residual-in_err-report.ensures
    (record { answer = asked _ _ c.in_ok-sheet.sheet c.in_ok-sheet.ensures _ c.filled-rounded.ensures.throughout _ (Err c.in_err-report.field-0.0) c.in_err-report.ensures; fitted = tt })

pub returns : goal.returns
returns c = fitted-sheet _ _ c.in_ok-sheet.sheet c.in_ok-sheet.ensures _ c.filled-rounded.ensures.throughout _ c.in_ok-report.report c.in_ok-report.ensures
