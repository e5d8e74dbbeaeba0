-- A refusal of the reader is the sheet's; what it accepts is decoded and judged.
use mathlib.Core.Path.{◌≡◌, sym, ◌∙◌}
use native.Mathlib.Omega.{arith}
use Rattle.verdict.specs.Answer.{Verdict, answer_of}
use Rattle.verdict.proofs.Answers.{handed_on}
use Rattle.fit_theory.specs.Stands.{Posted}
use Rattle.long_theory.specs.Tests.{long_proposal_tests}
use Rattle.long_reading.proofs.Parts.{Parts, accepted, read-parts}
use Rattle.long_sheet.specs.LongSheets.{long_sheet_tests}
use Rattle.long_sheet.proofs.Whole.{lengths-asked, refused-whole}
use Rattle.long_sheet.proofs.Lent.{levels-room, levels-size, levels_are, zeros-room, zeros-size, digits-room, digits-size, digits_are, of-lent, to-lent}
use Rattle.long_sheet.proofs.long_judge.Goals as goal
use Rattle.long_sheet.proofs.long_judge.Goals.{In_ok-sheet}

-- what was read, where the reader accepts
held : (c : In_ok-sheet) → Parts c.args.s.now c.in_ok-sheet.sheet
held c = read-parts _ _ c.in_ok-sheet.ensures

pub returns-in_err-sheet : goal.returns-in_err-sheet
returns-in_err-sheet c = let a = c.args in
    handed_on (λ (r : Verdict). answer_of r ≡ long_sheet_tests a.rule a.s.now) _ _ c.from_residual.ensures (refused-whole a.rule a.s.now _ c.in_err-sheet.ensures)

pub overflow_mul-count : goal.overflow_mul-count
overflow_mul-count c = record { fits = omega (arith, (held (goal.at.overflow_mul-count c).In_ok-sheet).few) }

pub denominator_digits-d-requires : goal.denominator_digits-d-requires
denominator_digits-d-requires c = let g = goal.at.denominator_digits-d-requires c in
    ((held g.In_ok-sheet).most, (held g.In_ok-sheet).denominator-there)

pub slice_bounds-digits-end : goal.slice_bounds-digits-end
slice_bounds-digits-end c = zeros-room (held (goal.at.slice_bounds-digits-end c).In_ok-sheet) _ c.filled-digits.ensures.throughout

pub slice_bounds-digits_into-end : goal.slice_bounds-digits_into-end
slice_bounds-digits_into-end c = zeros-size (held (goal.at.slice_bounds-digits_into-end c).In_ok-sheet) _ c.filled-digits.ensures.throughout

pub digits_into-requires : goal.digits_into-requires
digits_into-requires c = let g = goal.at.digits_into-requires c in
    (omega (arith, zeros-size (held g.In_ok-sheet) _ c.filled-digits.ensures.throughout), (held g.In_ok-sheet).numerators-there)

pub slice_bounds-distances-end : goal.slice_bounds-distances-end
slice_bounds-distances-end c = (held (goal.at.slice_bounds-distances-end c).In_ok-sheet).front.room

pub slice_bounds-judge_long_proposal-end : goal.slice_bounds-judge_long_proposal-end
slice_bounds-judge_long_proposal-end c = (held (goal.at.slice_bounds-judge_long_proposal-end c).In_ok-sheet).front.size

pub slice_bounds-judge_long_proposal-count : goal.slice_bounds-judge_long_proposal-count
slice_bounds-judge_long_proposal-count c = (held (goal.at.slice_bounds-judge_long_proposal-count c).In_ok-sheet).front.starts

pub slice_bounds-judge_long_proposal-start : goal.slice_bounds-judge_long_proposal-start
slice_bounds-judge_long_proposal-start c = (held (goal.at.slice_bounds-judge_long_proposal-start c).In_ok-sheet).front.starts

pub slice_bounds-judge_long_proposal-end-2 : goal.slice_bounds-judge_long_proposal-end-2
slice_bounds-judge_long_proposal-end-2 c = (held (goal.at.slice_bounds-judge_long_proposal-end-2 c).In_ok-sheet).front.ends

pub slice_bounds-d-end : goal.slice_bounds-d-end
slice_bounds-d-end c = levels-room (held (goal.at.slice_bounds-d-end c).In_ok-sheet) _ c.denominator_digits-d.ensures

pub slice_bounds-judge_long_proposal-end-3 : goal.slice_bounds-judge_long_proposal-end-3
slice_bounds-judge_long_proposal-end-3 c = levels-size (held (goal.at.slice_bounds-judge_long_proposal-end-3 c).In_ok-sheet) _ c.denominator_digits-d.ensures

pub slice_bounds-digits-end-2 : goal.slice_bounds-digits-end-2
slice_bounds-digits-end-2 c = digits-room (held (goal.at.slice_bounds-digits-end-2 c).In_ok-sheet) _ c.filled-digits.ensures.throughout _ c.digits_into.ensures

pub slice_bounds-judge_long_proposal-end-4 : goal.slice_bounds-judge_long_proposal-end-4
slice_bounds-judge_long_proposal-end-4 c = digits-size (held (goal.at.slice_bounds-judge_long_proposal-end-4 c).In_ok-sheet) _ c.filled-digits.ensures.throughout _ c.digits_into.ensures

pub judge_long_proposal-requires : goal.judge_long_proposal-requires
judge_long_proposal-requires c = let g = goal.at.judge_long_proposal-requires c in
    to-lent (held g.In_ok-sheet) Posted (held g.In_ok-sheet).posted

pub returns : goal.returns
returns c = let g = goal.at.returns c in
    of-lent (held g.In_ok-sheet) _ _ (levels_are (held g.In_ok-sheet) _ c.denominator_digits-d.ensures) (digits_are (held g.In_ok-sheet) _ c.filled-digits.ensures.throughout _ c.digits_into.ensures)
    (λ n ds ps d ns. answer_of c.judge_long_proposal.result ≡ long_proposal_tests c.args.rule n ds ps d ns) c.judge_long_proposal.ensures
    ∙ sym (lengths-asked c.args.rule c.args.s.now (accepted _ c.in_ok-sheet.sheet c.in_ok-sheet.ensures))
