-- `report_proposal`: the lengths, the buffer, then the numbers.
use Rattle.verdict.proofs.Answers.{handed_on}
use Rattle.reporting.specs.Answers.{ProposalReport}
use Rattle.reporting.proofs.Reports.{proposal-refused, accepted-stands, proposal-buffer, proposal-fit}
use Rattle.reporting.proofs.report_proposal.Goals as goal

pub returns-in_err-judge_proposal : goal.returns-in_err-judge_proposal
returns-in_err-judge_proposal c = let a = c.args in
    handed_on (ProposalReport a.rule a.n a.distances.now a.parents.now a.d a.numerators.now a.rounded.now a.rounded.now) _ _ c.from_residual.ensures
    (proposal-refused _ _ _ _ _ _ _ _ c.in_err-judge_proposal.ensures)

pub returns-then-rounded-parents : goal.returns-then-rounded-parents
returns-then-rounded-parents c = proposal-buffer _ _ _ _ _ _ _ c.in_ok-judge_proposal.ensures c.if-rounded-parents.true

pub numbered-requires : goal.numbered-requires
numbered-requires c = let a = c.args in record {
  stands = accepted-stands a.rule a.n a.distances.now a.parents.now a.d a.numerators.now a.rounded.now c.in_ok-judge_proposal.ensures c.requires;
  rounded_len = c.if-rounded-parents.false;
}

pub returns : goal.returns
returns c = proposal-fit _ _ _ _ _ _ _ c.in_ok-judge_proposal.ensures _ _ c.if-rounded-parents.false c.numbered.ensures
