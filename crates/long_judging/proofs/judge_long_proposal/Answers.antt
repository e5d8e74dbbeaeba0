-- `judge_long_proposal`: the lengths by themselves, then their signs and the edges' sums.
use mathlib.Core.Path.{◌≡◌, sym, ◌∙◌, ap}
use lib.ListN.{length}
use Rattle.verdict.specs.Answer.{Answer, Verdict, answer_of, ◌or_else◌}
use Rattle.verdict.proofs.Answers.{handed_on}
use Rattle.long_theory.specs.Tests.{long_fit_tests, long_proposal_tests}
use Rattle.long_theory.proofs.Checked.{→proper}
use Rattle.long_judging.proofs.judge_long_proposal.Goals as goal

pub returns-in_err-check_long_lengths : goal.returns-in_err-check_long_lengths
returns-in_err-check_long_lengths c = let a = c.args in
    handed_on (λ (r : Verdict). answer_of r ≡ long_proposal_tests a.rule a.n a.distances.now a.parents.now a.d.now a.digits.now) _ _ c.from_residual.ensures
    (ap (λ (k : Answer). k or_else long_fit_tests a.rule a.n a.distances.now a.parents.now a.d.now a.digits.now) c.in_err-check_long_lengths.ensures)

pub check_long_fit-requires : goal.check_long_fit-requires
check_long_fit-requires c = record {
  posted = c.requires;
  long_proper = →proper (length c.args.parents.now) c.args.d.now c.args.digits.now (sym c.in_ok-check_long_lengths.ensures);
}

pub returns : goal.returns
returns c = let a = c.args in
    c.check_long_fit.ensures
    ∙ ap (λ (k : Answer). k or_else long_fit_tests a.rule a.n a.distances.now a.parents.now a.d.now a.digits.now) c.in_ok-check_long_lengths.ensures
