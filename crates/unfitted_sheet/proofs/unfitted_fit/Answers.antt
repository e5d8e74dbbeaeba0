-- `unfitted_fit`: a refusal of the reader, or of the tree for its degrees, is the sheet's; what passes is fitted, with the three tables.
use mathlib.Core.Path.{sym, ◌∙◌}
use Prim.Native.Nat.{◌-◌, ◌≤◌}
use lib.IntN.{pos}
use Rattle.verdict.proofs.Answers.{handed_on}
use Rattle.tree_theory.specs.Limits.{max_edges}
use Rattle.direct_theory.specs.Tests.{direct_only}
use Rattle.reading.proofs.Parts.{Parts}
use Rattle.reading.proofs.Whole.{refused-two}
use Rattle.reading.specs.Holds.{strains_of, distances_of, parents_of}
use Rattle.unfitted_sheet.specs.Fits.{UnfittedAnswer}
use Rattle.unfitted_sheet.proofs.Fits.{front-there, front-size, parts, few-edges, shaped, parents-size, degrees_asked, fitted-sheet}
use Rattle.unfitted_sheet.proofs.unfitted_fit.Goals as goal
use Rattle.unfitted_sheet.proofs.unfitted_fit.Goals.{In_ok-sheet}

-- what was read, where the reader accepts
held : (c : In_ok-sheet) → Parts c.args.s.now c.in_ok-sheet.sheet
held c = parts _ _ c.in_ok-sheet.ensures

few : (c : In_ok-sheet) → c.in_ok-sheet.sheet.end - c.in_ok-sheet.sheet.parents ≤ max_edges
few c = few-edges _ c.in_ok-sheet.sheet c.in_ok-sheet.ensures

pub returns-in_err-sheet : goal.returns-in_err-sheet
returns-in_err-sheet c = handed_on (UnfittedAnswer c.args.s.now) _ _ c.from_residual.ensures
    (record { answer = refused-two _ _ (direct_only (strains_of _) (distances_of _) (parents_of _)) c.in_err-sheet.ensures.answer; fitted = tt })

pub slice_bounds-distances-end : goal.slice_bounds-distances-end
slice_bounds-distances-end c = (held (goal.at.slice_bounds-distances-end c).In_ok-sheet).room

pub slice_bounds-check_resolved-end : goal.slice_bounds-check_resolved-end
slice_bounds-check_resolved-end c = (held (goal.at.slice_bounds-check_resolved-end c).In_ok-sheet).size

pub slice_bounds-check_resolved-count : goal.slice_bounds-check_resolved-count
slice_bounds-check_resolved-count c = (held (goal.at.slice_bounds-check_resolved-count c).In_ok-sheet).starts

pub slice_bounds-check_resolved-start : goal.slice_bounds-check_resolved-start
slice_bounds-check_resolved-start c = (held (goal.at.slice_bounds-check_resolved-start c).In_ok-sheet).starts

pub slice_bounds-check_resolved-end-2 : goal.slice_bounds-check_resolved-end-2
slice_bounds-check_resolved-end-2 c = (held (goal.at.slice_bounds-check_resolved-end-2 c).In_ok-sheet).ends

pub check_resolved-requires : goal.check_resolved-requires
check_resolved-requires c = shaped _ c.in_ok-sheet.sheet c.in_ok-sheet.ensures

pub returns-in_err-check_resolved : goal.returns-in_err-check_resolved
returns-in_err-check_resolved c = handed_on (UnfittedAnswer c.args.s.now) _ _ c.from_residual-in_err-check_resolved.ensures
    (record { answer = degrees_asked _ c.in_ok-sheet.sheet c.in_ok-sheet.ensures _ c.in_err-check_resolved.ensures; fitted = tt })

pub overflow_sub-edges : goal.overflow_sub-edges
overflow_sub-edges c = (held (goal.at.overflow_sub-edges c).In_ok-sheet).starts

pub slice_bounds-distances-end-2 : goal.slice_bounds-distances-end-2
slice_bounds-distances-end-2 c = (held (goal.at.slice_bounds-distances-end-2 c).In_ok-sheet).room

pub slice_bounds-resolve-end : goal.slice_bounds-resolve-end
slice_bounds-resolve-end c = (held (goal.at.slice_bounds-resolve-end c).In_ok-sheet).size

pub slice_bounds-resolve-count : goal.slice_bounds-resolve-count
slice_bounds-resolve-count c = (held (goal.at.slice_bounds-resolve-count c).In_ok-sheet).starts

pub slice_bounds-resolve-start : goal.slice_bounds-resolve-start
slice_bounds-resolve-start c = (held (goal.at.slice_bounds-resolve-start c).In_ok-sheet).starts

pub slice_bounds-resolve-end-2 : goal.slice_bounds-resolve-end-2
slice_bounds-resolve-end-2 c = (held (goal.at.slice_bounds-resolve-end-2 c).In_ok-sheet).ends

pub slice_bounds-tops-end : goal.slice_bounds-tops-end
slice_bounds-tops-end c = front-there (pos 0) _ c.filled-tops.ensures.throughout _ (few (goal.at.slice_bounds-tops-end c).In_ok-sheet)

pub slice_bounds-resolve-end-3 : goal.slice_bounds-resolve-end-3
slice_bounds-resolve-end-3 c = front-size (pos 0) _ c.filled-tops.ensures.throughout _ (few (goal.at.slice_bounds-resolve-end-3 c).In_ok-sheet)

pub slice_bounds-bottoms-end : goal.slice_bounds-bottoms-end
slice_bounds-bottoms-end c = front-there 0 _ c.filled-bottoms.ensures.throughout _ (few (goal.at.slice_bounds-bottoms-end c).In_ok-sheet)

pub slice_bounds-resolve-end-4 : goal.slice_bounds-resolve-end-4
slice_bounds-resolve-end-4 c = front-size 0 _ c.filled-bottoms.ensures.throughout _ (few (goal.at.slice_bounds-resolve-end-4 c).In_ok-sheet)

pub slice_bounds-rounded-end : goal.slice_bounds-rounded-end
slice_bounds-rounded-end c = front-there (pos 0) _ c.filled-rounded.ensures.throughout _ (few (goal.at.slice_bounds-rounded-end c).In_ok-sheet)

pub slice_bounds-resolve-end-5 : goal.slice_bounds-resolve-end-5
slice_bounds-resolve-end-5 c = front-size (pos 0) _ c.filled-rounded.ensures.throughout _ (few (goal.at.slice_bounds-resolve-end-5 c).In_ok-sheet)

pub resolve-fit-requires : goal.resolve-fit-requires
resolve-fit-requires c =
    let all = parents-size _ c.in_ok-sheet.sheet c.in_ok-sheet.ensures in record {
      shaped = shaped _ c.in_ok-sheet.sheet c.in_ok-sheet.ensures;
      parents_value = sym c.in_ok-check_resolved.ensures;
      numerators_len = (
        sym (front-size (pos 0) _ c.filled-tops.ensures.throughout _ (few (goal.at.resolve-fit-requires c).In_ok-sheet)) ∙ all,
        sym (front-size 0 _ c.filled-bottoms.ensures.throughout _ (few (goal.at.resolve-fit-requires c).In_ok-sheet)) ∙ all,
        sym (front-size (pos 0) _ c.filled-rounded.ensures.throughout _ (few (goal.at.resolve-fit-requires c).In_ok-sheet)) ∙ all,
      );
    }

pub returns : goal.returns
returns c =
    fitted-sheet _ c.in_ok-sheet.sheet c.in_ok-sheet.ensures c.in_ok-check_resolved.ensures
    _ _ _ c.filled-tops.ensures.throughout c.filled-bottoms.ensures.throughout c.filled-rounded.ensures.throughout _ _ _ c.resolve-fit.result c.resolve-fit.ensures
