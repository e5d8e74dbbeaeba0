-- What was read is judged; the lengths of what passes are rounded.
use mathlib.Core.Path.{refl}
use native.Mathlib.Omega.{arith}
use Rattle.verdict.proofs.Answers.{handed_on}
use Rattle.fit_theory.specs.Stands.{Posted}
use Rattle.reading.proofs.Parts.{Parts, Lengths, read-parts, read-posted, read-lengths, to-parts}
use Rattle.newick_sheet.specs.Named.{FittingAnswer}
use Rattle.newick_sheet.proofs.Fits.{reader_refused, told, proper, judge_passed}
use Rattle.newick_sheet.proofs.fit_of.Goals as goal
use Rattle.newick_sheet.proofs.fit_of.Goals.{In_ok-sheet}

-- what was read, where the reader accepts
held : (c : In_ok-sheet) → Parts c.args.s.now c.in_ok-sheet.sheet
held c = read-parts 4 _ _ (omega arith) c.in_ok-sheet.ensures

proposed : (c : In_ok-sheet) → Lengths c.args.s.now c.in_ok-sheet.sheet
proposed c = read-lengths 4 _ _ (omega arith) c.in_ok-sheet.ensures

pub returns-in_err-sheet : goal.returns-in_err-sheet
returns-in_err-sheet c = handed_on (λ r. FittingAnswer c.args.s.now r) _ _ c.from_residual.ensures (record {
  answer = reader_refused c.args.s.now c.requires _ c.in_err-sheet.ensures;
  fitted = tt;
})

pub slice_bounds-judge_proposal-count : goal.slice_bounds-judge_proposal-count
slice_bounds-judge_proposal-count c = (held (goal.at.slice_bounds-judge_proposal-count c).In_ok-sheet).starts

pub slice_bounds-judge_proposal-start : goal.slice_bounds-judge_proposal-start
slice_bounds-judge_proposal-start c = (held (goal.at.slice_bounds-judge_proposal-start c).In_ok-sheet).starts

pub slice_bounds-judge_proposal-end-2 : goal.slice_bounds-judge_proposal-end-2
slice_bounds-judge_proposal-end-2 c = (held (goal.at.slice_bounds-judge_proposal-end-2 c).In_ok-sheet).ends

pub shared_ref_as_front-judge_proposal-2 : goal.shared_ref_as_front-judge_proposal-2
shared_ref_as_front-judge_proposal-2 c = omega (arith, (proposed (goal.at.shared_ref_as_front-judge_proposal-2 c).In_ok-sheet).few)

pub judge_proposal-requires : goal.judge_proposal-requires
judge_proposal-requires c = to-parts (held (goal.at.judge_proposal-requires c).In_ok-sheet) Posted (read-posted 4 _ _ (omega arith) c.in_ok-sheet.ensures)

pub returns-in_err-judge_proposal : goal.returns-in_err-judge_proposal
returns-in_err-judge_proposal c = handed_on (λ r. FittingAnswer c.args.s.now r) _ _ c.from_residual-in_err-judge_proposal.ensures (record {
  answer = told c.args.s.now c.requires c.in_ok-sheet.sheet c.in_ok-sheet.ensures _ c.in_err-judge_proposal.ensures;
  fitted = tt;
})

pub rounded-requires : goal.rounded-requires
rounded-requires c = let p = proposed (goal.at.rounded-requires c).In_ok-sheet in
    let l = proper c.args.s.now c.requires c.in_ok-sheet.sheet c.in_ok-sheet.ensures c.in_ok-judge_proposal.ensures in
    record {
      edges_le_max_edges = (p.few, l.one);
      in_range = record { room = omega (arith, p.size); near = λ v h. l.near v (omega (arith, p.size)) };
    }

pub returns : goal.returns
returns c = judge_passed c.args.s.now c.requires c.in_ok-sheet.sheet c.in_ok-sheet.ensures c.in_ok-judge_proposal.ensures _ c.rounded.ensures refl refl refl refl
