-- `fit_resolved`: the tests first; what passes all of them is fitted.
use mathlib.Core.Path.{refl, sym}
use native.Mathlib.Omega.{arith}
use lib.ListN.{length}
use Rattle.verdict.proofs.Answers.{handed_on}
use Rattle.direct_fit.specs.Answers.{DirectAnswer}
use Rattle.direct_fit.proofs.Chosen.{passed}
use Rattle.direct_fit.proofs.fit_resolved.Goals as goal

pub returns-in_err-check_direct : goal.returns-in_err-check_direct
returns-in_err-check_direct c = let a = c.args in
    handed_on (DirectAnswer a.n a.distances.now a.parents.now a.numerators.now a.numerators.now a.denominators.now a.denominators.now a.rounded.now a.rounded.now) _ _ c.from_residual.ensures
    (record { answer = c.in_err-check_direct.ensures; fit = tt; kept = (refl, refl, refl) })

pub resolve-requires : goal.resolve-requires
resolve-requires c = let a = c.args in
    let p = passed a.n a.distances.now a.parents.now (length a.numerators.now) (length a.denominators.now) (length a.rounded.now) (sym c.in_ok-check_direct.ensures) in
    record {
      shaped = p.shaped;
      parents_value = p.resolved;
      numerators_len = (omega (arith, p.first, p.third), p.second, omega (arith, p.first, p.third));
    }

pub returns : goal.returns
returns c = record { answer = c.in_ok-check_direct.ensures; fit = c.resolve.ensures; kept = tt }
