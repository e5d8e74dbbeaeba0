-- The signs on both sides.
use Rattle.long_theory.specs.Long.{long_denominator, long_numerator}
use Rattle.long_sums.proofs.Filling.{stored}
use Rattle.long_lengths.proofs.Ranges.{beyond-above, beyond-below}
use Rattle.long_lengths.proofs.beyond.Goals as goal

pub returns-then-compare-gt0 : goal.returns-then-compare-gt0
returns-then-compare-gt0 c = beyond-above (long_denominator c.args.levels c.args.d.now) (long_numerator c.args.levels c.args.edges c.args.digits.now c.args.v) _ (stored _ _ c.compare.ensures) c.if-compare-gt0.true

pub returns : goal.returns
returns c = beyond-below (long_denominator c.args.levels c.args.d.now) (long_numerator c.args.levels c.args.edges c.args.digits.now c.args.v) _ _ (stored _ _ c.compare.ensures) c.if-compare-gt0.false (stored _ _ c.compare-2.ensures)
