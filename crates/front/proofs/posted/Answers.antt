-- Where the two counts agree, the matrix may be asked once more before both.
use mathlib.Core.Path.{ap, ◌∙◌}
use Rattle.verdict.specs.declared.Place.TheVariants.{Nowhere}
use Rattle.verdict.specs.Answer.{Answer, fault, ◌or_else◌}
use Rattle.front.proofs.Formed.{apart, together, each}
use Rattle.front.proofs.posted.Goals as goal

pub returns-then-other-n : goal.returns-then-other-n
returns-then-other-n c = ap (λ (m : Answer). m or_else fault 8 Nowhere) c.in_ok-check_matrix.ensures
    ∙ apart c.args.count _ _ c.args.distances.now c.args.parents.now c.if-other-n.true

pub returns-then-count-gt2 : goal.returns-then-count-gt2
returns-then-count-gt2 c = let a = c.args in
    c.check_posting.ensures ∙ together a.count _ _ a.distances.now a.parents.now c.if-other-n.false c.if-count-gt2.true

pub returns : goal.returns
returns c = let a = c.args in
    c.check_shapes.ensures ∙ each a.count _ _ a.distances.now a.parents.now c.if-other-n.false c.if-count-gt2.false
