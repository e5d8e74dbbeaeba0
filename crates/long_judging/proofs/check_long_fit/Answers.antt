-- The numerators' signs, then the edges' sums, each cut off.
use mathlib.Core.Path.{◌≡◌, ◌∙◌, ap}
use mathlib.Core.List.{List}
use lib.IntN.{ℤ}
use lib.ListN.{length}
use native.Mathlib.Omega.{arith}
use Rattle.exact.specs.Table.{entry_of}
use Rattle.verdict.specs.Answer.{Answer, Verdict, answer_of, ◌or_else◌}
use Rattle.verdict.proofs.Answers.{handed_on}
use Rattle.lengths.specs.Tests.{sign_tests}
use Rattle.fit_theory.specs.Tests.{balance_tests}
use Rattle.balancing.proofs.Faults.{same-sums}
use Rattle.long_theory.specs.Tests.{long_sum_of, long_sums_tests, long_fit_tests}
use Rattle.long_judging.proofs.Lent.{prefix, prefix-long, long-ready, sums_are}
use Rattle.long_judging.proofs.check_long_fit.Goals as goal

pub slice_bounds-check_signs-end : goal.slice_bounds-check_signs-end
slice_bounds-check_signs-end c = prefix-long _ _ _ c.requires.long_proper.few c.long_tops-tops.ensures

pub returns-in_err-check_signs : goal.returns-in_err-check_signs
returns-in_err-check_signs c = let a = c.args in
    handed_on (λ (r : Verdict). answer_of r ≡ long_fit_tests a.rule a.n a.distances.now a.parents.now a.d.now a.digits.now) _ _ c.from_residual.ensures
    (ap (λ (k : Answer). k or_else long_sums_tests a.rule a.n a.distances.now a.parents.now a.d.now a.digits.now)
    (c.in_err-check_signs.ensures ∙ ap (sign_tests a.rule) (prefix _ _ _ c.requires.long_proper.few c.long_tops-tops.ensures)))

pub long_sums-sums-requires : goal.long_sums-sums-requires
long_sums-sums-requires c = long-ready c.requires.posted c.requires.long_proper _ c.clusters-masks.ensures

pub slice_bounds-balance-end : goal.slice_bounds-balance-end
slice_bounds-balance-end c = prefix-long _ _ _ c.requires.long_proper.few c.long_tops-tops.ensures

pub balance-requires : goal.balance-requires
balance-requires c = record {
  edges_le_max_edges = c.requires.long_proper.few;
  edges_in_bounds = omega (arith, prefix-long _ _ _ c.requires.long_proper.few c.long_tops-tops.ensures);
}

pub returns : goal.returns
returns c = let a = c.args in
    let e = prefix _ _ _ c.requires.long_proper.few c.long_tops-tops.ensures in
    c.balance.ensures
    ∙ same-sums a.rule (length a.parents.now) _ _ _ (sums_are c.requires.posted c.requires.long_proper _ c.long_sums-sums.ensures)
    ∙ ap (λ (x : List ℤ). balance_tests a.rule (length a.parents.now) (entry_of x) (long_sum_of a.n a.distances.now a.parents.now a.d.now a.digits.now)) e
    ∙ ap (λ (k : Answer). k or_else long_sums_tests a.rule a.n a.distances.now a.parents.now a.d.now a.digits.now)
    (c.in_ok-check_signs.ensures ∙ ap (sign_tests a.rule) e)
