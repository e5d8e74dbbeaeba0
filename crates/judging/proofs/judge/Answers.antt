-- `judge`: the matrix with the tree, then the lengths beside them.
use mathlib.Core.Path.{◌≡◌, sym, ◌∙◌, ap}
use Rattle.verdict.specs.Answer.{Answer, Verdict, answer_of, ◌or_else◌}
use Rattle.verdict.proofs.Answers.{handed_on}
use Rattle.fit_theory.specs.Tests.{judge_tests, proposal_tests}
use Rattle.fit_theory.proofs.Exactly.{→posted}
use Rattle.judging.proofs.Judged.{judged}
use Rattle.judging.proofs.judge.Goals as goal

pub returns-in_err-check_posting : goal.returns-in_err-check_posting
returns-in_err-check_posting c = let a = c.args in
    judged a.rule a.n a.distances.now a.parents.now a.d a.numerators.now _
    (handed_on (λ (r : Verdict). answer_of r ≡ judge_tests a.rule a.n a.distances.now a.parents.now a.d a.numerators.now) _ _ c.from_residual.ensures
    (ap (λ (z : Answer). z or_else proposal_tests a.rule a.n a.distances.now a.parents.now a.d a.numerators.now) c.in_err-check_posting.ensures))

pub judge_proposal-requires : goal.judge_proposal-requires
judge_proposal-requires c = let a = c.args in →posted a.n a.distances.now a.parents.now (sym c.in_ok-check_posting.ensures)

pub returns : goal.returns
returns c = let a = c.args in
    judged a.rule a.n a.distances.now a.parents.now a.d a.numerators.now _
    (c.judge_proposal.ensures
    ∙ ap (λ (z : Answer). z or_else proposal_tests a.rule a.n a.distances.now a.parents.now a.d a.numerators.now) c.in_ok-check_posting.ensures)
