-- The search's end, and its even neighbour at a tie.
use mathlib.Core.Path.{◌∙◌}
use native.Mathlib.Omega.{arith}
use Rattle.long_rounding.proofs.Searching.{result_fits, result_is, even-nearest, plain-nearest, tie-nearest, cut-zero, zero-cut, result_near}
use Rattle.long_rounding.proofs.long_thousandths.Goals as goal

pub overflow_sub-result : goal.overflow_sub-result
overflow_sub-result c = result_fits c.greatest-u.result (omega (arith, c.greatest-u.ensures.most)) 100000000000 (omega arith)

pub returns-then-u-eq0 : goal.returns-then-u-eq0
returns-then-u-eq0 c = let g = c.greatest-u in (
  result_is g.result (omega (arith, g.ensures.most)) 100000000000 (omega arith)
      ∙ even-nearest _ _ c.greatest-u.result c.requires.long_near.one c.greatest-u.ensures c.if-u-eq0.true,
  result_near g.result g.ensures.most 100000000000 (omega arith) (omega arith) (omega (arith, g.ensures.most)),
)

pub overflow_sub-result-then-reach-eq0 : goal.overflow_sub-result-then-reach-eq0
overflow_sub-result-then-reach-eq0 c = result_fits c.greatest-u.result (omega (arith, c.greatest-u.ensures.most)) 100000000001 (omega arith)

pub returns-then-reach-eq0 : goal.returns-then-reach-eq0
returns-then-reach-eq0 c = let g = c.greatest-u in (
  result_is c.greatest-u.result (omega (arith, c.greatest-u.ensures.most)) 100000000001 (omega arith)
      ∙ tie-nearest _ _ c.greatest-u.result c.requires.long_near.one c.greatest-u.ensures c.if-u-eq0.false (cut-zero _ _ c.reach.ensures c.if-reach-eq0.true),
  result_near g.result g.ensures.most 100000000001 (omega arith) (omega arith) (omega (arith, g.ensures.most)),
)

pub overflow_sub-result-2 : goal.overflow_sub-result-2
overflow_sub-result-2 c = result_fits c.greatest-u.result (omega (arith, c.greatest-u.ensures.most)) 100000000000 (omega arith)

pub returns : goal.returns
returns c = let g = c.greatest-u in (
  result_is c.greatest-u.result (omega (arith, c.greatest-u.ensures.most)) 100000000000 (omega arith)
      ∙ plain-nearest _ _ c.greatest-u.result c.requires.long_near.one c.greatest-u.ensures (zero-cut _ _ c.reach.ensures c.if-reach-eq0.false),
  result_near g.result g.ensures.most 100000000000 (omega arith) (omega arith) (omega (arith, g.ensures.most)),
)
