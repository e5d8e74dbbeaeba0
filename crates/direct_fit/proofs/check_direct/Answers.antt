-- `check_direct`: the matrix and the tree first; of what passes, the degrees and missing pairs, then the sizes.
use mathlib.Core.Path.{◌≡◌, ◌∙◌}
use lib.ListN.{length}
use Rattle.verdict.specs.Answer.{Verdict, answer_of}
use Rattle.verdict.proofs.Answers.{handed_on}
use Rattle.direct_theory.specs.Tests.{direct_tests}
use Rattle.direct_fit.proofs.Chosen.{first, shaped, second, third}
use Rattle.direct_fit.proofs.check_direct.Goals as goal

pub returns-in_err-check_shapes : goal.returns-in_err-check_shapes
returns-in_err-check_shapes c = let a = c.args in
    handed_on (λ (r : Verdict). answer_of r ≡ direct_tests a.n a.distances.now a.parents.now a.a a.b a.c) _ _ c.from_residual.ensures
    (first a.n a.distances.now a.parents.now a.a a.b a.c _ c.in_err-check_shapes.ensures)

pub check_resolved-requires : goal.check_resolved-requires
check_resolved-requires c = let a = c.args in shaped a.n a.distances.now a.parents.now a.a a.b a.c c.in_ok-check_shapes.ensures

pub returns-in_err-check_resolved : goal.returns-in_err-check_resolved
returns-in_err-check_resolved c = let a = c.args in
    handed_on (λ (r : Verdict). answer_of r ≡ direct_tests a.n a.distances.now a.parents.now a.a a.b a.c) _ _ c.from_residual-in_err-check_resolved.ensures
    (second a.n a.distances.now a.parents.now a.a a.b a.c c.in_ok-check_shapes.ensures _ c.in_err-check_resolved.ensures)

pub returns : goal.returns
returns c = let a = c.args in
    c.check_buffers.ensures ∙ third a.n a.distances.now a.parents.now a.a a.b a.c c.in_ok-check_shapes.ensures c.in_ok-check_resolved.ensures
