-- `report`: the matrix with the tree, then the lengths beside them.
use Rattle.verdict.proofs.Answers.{handed_on}
use Rattle.reporting.specs.Answers.{ReportAnswer}
use Rattle.reporting.proofs.Reports.{report-refused, report-posted, report-proposal}
use Rattle.reporting.proofs.report.Goals as goal

pub returns-in_err-check_posting : goal.returns-in_err-check_posting
returns-in_err-check_posting c = let a = c.args in
    handed_on (ReportAnswer a.rule a.n a.distances.now a.parents.now a.d a.numerators.now a.rounded.now a.rounded.now) _ _ c.from_residual.ensures
    (report-refused _ _ _ _ _ _ _ _ c.in_err-check_posting.ensures)

pub report_proposal-requires : goal.report_proposal-requires
report_proposal-requires c = let a = c.args in
    report-posted a.rule a.n a.distances.now a.parents.now a.d a.numerators.now a.rounded.now c.in_ok-check_posting.ensures

pub returns : goal.returns
returns c = report-proposal _ _ _ _ _ _ _ c.in_ok-check_posting.ensures _ _ c.report_proposal.ensures
