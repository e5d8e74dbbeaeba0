-- `judge_long`: the matrix with the tree, then the lengths beside them.
use mathlib.Core.Path.{sym, ◌∙◌, ap}
use Rattle.verdict.specs.Answer.{Answer, ◌or_else◌}
use Rattle.verdict.proofs.Answers.{handed_on}
use Rattle.long_theory.specs.Tests.{long_proposal_tests}
use Rattle.fit_theory.proofs.Exactly.{→posted}
use Rattle.long_judging.specs.Answers.{LongJudged}
use Rattle.long_judging.proofs.Judged.{long-judged}
use Rattle.long_judging.proofs.judge_long.Goals as goal

pub returns-in_err-check_posting : goal.returns-in_err-check_posting
returns-in_err-check_posting c = let a = c.args in
    handed_on (LongJudged a.rule a.n a.distances.now a.parents.now a.d.now a.digits.now) _ _ c.from_residual.ensures
    (long-judged a.rule a.n a.distances.now a.parents.now a.d.now a.digits.now _
    (ap (λ (k : Answer). k or_else long_proposal_tests a.rule a.n a.distances.now a.parents.now a.d.now a.digits.now) c.in_err-check_posting.ensures))

pub judge_long_proposal-requires : goal.judge_long_proposal-requires
judge_long_proposal-requires c = let a = c.args in
    →posted a.n a.distances.now a.parents.now (sym c.in_ok-check_posting.ensures)

pub returns : goal.returns
returns c = let a = c.args in
    long-judged a.rule a.n a.distances.now a.parents.now a.d.now a.digits.now _
    (c.judge_long_proposal.ensures
    ∙ ap (λ (k : Answer). k or_else long_proposal_tests a.rule a.n a.distances.now a.parents.now a.d.now a.digits.now) c.in_ok-check_posting.ensures)
