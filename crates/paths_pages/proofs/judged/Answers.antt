-- A refusal of the reader is the sheet's; what it accepts is judged.
use mathlib.Core.Path.{◌≡◌}
use mathlib.Core.List.{List}
use Prim.Native.Nat.{ℕ}
use native.Mathlib.Omega.{arith}
use Rattle.verdict.specs.Answer.{pass, refusal_of}
use Rattle.verdict.proofs.Answers.{handed_on}
use Rattle.fit_theory.specs.Stands.{Posted}
use Rattle.reading.proofs.Parts.{Parts, Lengths, read-posted, to-parts}
use Rattle.paths_pages.specs.Texts.{JudgedSheet}
use Rattle.paths_pages.proofs.Printing.{reader_refused, held, proposed, told}
use Rattle.paths_pages.proofs.judged.Goals as goal
use Rattle.paths_pages.proofs.judged.Goals.{In_ok-sheet}

-- what was read, where the reader accepts
parts : (c : In_ok-sheet) → Parts c.args.s.now c.in_ok-sheet.sheet
parts c = held c.args.count c.requires.0 _ _ c.in_ok-sheet.ensures

lengths : (c : In_ok-sheet) → Lengths c.args.s.now c.in_ok-sheet.sheet
lengths c = proposed c.args.count c.requires.0 _ _ c.in_ok-sheet.ensures

pub returns-in_err-sheet : goal.returns-in_err-sheet
returns-in_err-sheet c = handed_on (JudgedSheet c.args.count c.args.s.now) _ _ c.from_residual.ensures
    (record { answer = reader_refused c.args.count c.requires.0 c.args.s.now _ c.in_err-sheet.ensures.answer; read = tt })

pub slice_bounds-distances-end : goal.slice_bounds-distances-end
slice_bounds-distances-end c = (parts (goal.at.slice_bounds-distances-end c).In_ok-sheet).room

pub slice_bounds-judge_proposal-end : goal.slice_bounds-judge_proposal-end
slice_bounds-judge_proposal-end c = (parts (goal.at.slice_bounds-judge_proposal-end c).In_ok-sheet).size

pub slice_bounds-judge_proposal-count : goal.slice_bounds-judge_proposal-count
slice_bounds-judge_proposal-count c = (parts (goal.at.slice_bounds-judge_proposal-count c).In_ok-sheet).starts

pub slice_bounds-judge_proposal-start : goal.slice_bounds-judge_proposal-start
slice_bounds-judge_proposal-start c = (parts (goal.at.slice_bounds-judge_proposal-start c).In_ok-sheet).starts

pub slice_bounds-judge_proposal-end-2 : goal.slice_bounds-judge_proposal-end-2
slice_bounds-judge_proposal-end-2 c = (parts (goal.at.slice_bounds-judge_proposal-end-2 c).In_ok-sheet).ends

pub slice_bounds-numerators-end : goal.slice_bounds-numerators-end
slice_bounds-numerators-end c = (lengths (goal.at.slice_bounds-numerators-end c).In_ok-sheet).room

pub slice_bounds-judge_proposal-end-3 : goal.slice_bounds-judge_proposal-end-3
slice_bounds-judge_proposal-end-3 c = (lengths (goal.at.slice_bounds-judge_proposal-end-3 c).In_ok-sheet).size

pub judge_proposal-requires : goal.judge_proposal-requires
judge_proposal-requires c = to-parts (parts (goal.at.judge_proposal-requires c).In_ok-sheet) Posted (read-posted c.args.count _ _ c.requires.0 c.in_ok-sheet.ensures)

pub returns-in_err-judge_proposal : goal.returns-in_err-judge_proposal
returns-in_err-judge_proposal c = handed_on (JudgedSheet c.args.count c.args.s.now) _ _ c.from_residual-in_err-judge_proposal.ensures
    (record { answer = told c.args.count c.requires.0 c.args.s.now c.in_ok-sheet.sheet c.in_ok-sheet.ensures (refusal_of c.in_err-judge_proposal.field-0.0) c.in_err-judge_proposal.ensures; read = tt })

pub returns : goal.returns
returns c = record {
  answer = told c.args.count c.requires.0 c.args.s.now c.in_ok-sheet.sheet c.in_ok-sheet.ensures pass c.in_ok-judge_proposal.ensures;
  read = c.in_ok-sheet.ensures;
}
