-- `sheet_judge`: a refusal of the reader is the sheet's; what it accepts is judged.
use mathlib.Core.Path.{◌≡◌, sym, ◌∙◌}
use mathlib.Core.List.{List}
use Prim.Native.Nat.{ℕ}
use native.Mathlib.Omega.{arith}
use Rattle.std.specs.Prelude.{Ok}
use Rattle.verdict.specs.Answer.{Verdict, answer_of}
use Rattle.verdict.proofs.Answers.{handed_on}
use Rattle.reading.specs.Tests.{sheet_tests}
use Rattle.fit_theory.specs.Stands.{Posted}
use Rattle.fit_theory.specs.Tests.{proposal_tests}
use Rattle.reading.specs.declared.Sheet.{Sheet}
use Rattle.reading.specs.Reads.{together, SheetAnswer}
use Rattle.reading.proofs.Parts.{Parts, Lengths, accepted, read-parts, read-posted, read-lengths, outline_sheet, of-lengths, to-parts}
use Rattle.reading.proofs.Whole.{sheet-asked, refused-whole}
use Rattle.sheet.proofs.sheet_judge.Goals as goal
use Rattle.sheet.proofs.sheet_judge.Goals.{After-read_into, In_ok-sheet}

-- what was read, where the reader accepts: the outline and the two tables, as they are back
abbrev bytes : After-read_into → List ℕ
bytes c = c.args.s.now

abbrev sheet : In_ok-sheet → Sheet
sheet c = together c.in_ok-sheet.sheet c.read_into.new.distances c.read_into.new.numerators

whole : (c : In_ok-sheet) → SheetAnswer 3 (bytes (goal.at.In_ok-sheet c).After-read_into) (Ok (sheet c))
whole c = outline_sheet 3 _ _ _ _ c.in_ok-sheet.ensures

held : (c : In_ok-sheet) → Parts (bytes (goal.at.In_ok-sheet c).After-read_into) (sheet c)
held c = read-parts 3 _ _ (omega arith) (whole c)

proposed : (c : In_ok-sheet) → Lengths (bytes (goal.at.In_ok-sheet c).After-read_into) (sheet c)
proposed c = read-lengths 3 _ _ (omega arith) (whole c)

pub returns-in_err-sheet : goal.returns-in_err-sheet
returns-in_err-sheet c = let a = c.args in
    handed_on (λ (r : Verdict). answer_of r ≡ sheet_tests a.rule a.s.now) _ _ c.from_residual.ensures (refused-whole a.rule a.s.now _ c.in_err-sheet.ensures.answer)

pub slice_bounds-distances-end : goal.slice_bounds-distances-end
slice_bounds-distances-end c = (held c).room

pub slice_bounds-judge_proposal-end : goal.slice_bounds-judge_proposal-end
slice_bounds-judge_proposal-end c = (held (goal.at.slice_bounds-judge_proposal-end c).In_ok-sheet).size

pub slice_bounds-judge_proposal-count : goal.slice_bounds-judge_proposal-count
slice_bounds-judge_proposal-count c = (held (goal.at.slice_bounds-judge_proposal-count c).In_ok-sheet).starts

pub slice_bounds-judge_proposal-start : goal.slice_bounds-judge_proposal-start
slice_bounds-judge_proposal-start c = (held (goal.at.slice_bounds-judge_proposal-start c).In_ok-sheet).starts

pub slice_bounds-judge_proposal-end-2 : goal.slice_bounds-judge_proposal-end-2
slice_bounds-judge_proposal-end-2 c = (held (goal.at.slice_bounds-judge_proposal-end-2 c).In_ok-sheet).ends

pub slice_bounds-numerators-end : goal.slice_bounds-numerators-end
slice_bounds-numerators-end c = (proposed (goal.at.slice_bounds-numerators-end c).In_ok-sheet).room

pub slice_bounds-judge_proposal-end-3 : goal.slice_bounds-judge_proposal-end-3
slice_bounds-judge_proposal-end-3 c = (proposed (goal.at.slice_bounds-judge_proposal-end-3 c).In_ok-sheet).size

pub judge_proposal-requires : goal.judge_proposal-requires
judge_proposal-requires c = to-parts (held (goal.at.judge_proposal-requires c).In_ok-sheet) Posted (read-posted 3 _ _ (omega arith) (whole (goal.at.judge_proposal-requires c).In_ok-sheet))

pub returns : goal.returns
returns c = let rule = c.args.rule in
    of-lengths (held (goal.at.returns c).In_ok-sheet) (proposed (goal.at.returns c).In_ok-sheet) (λ n ds ps d ns. answer_of c.judge_proposal.result ≡ proposal_tests rule n ds ps d ns) c.judge_proposal.ensures
    ∙ sym (sheet-asked rule _ (accepted 3 _ _ (whole (goal.at.returns c).In_ok-sheet)))
