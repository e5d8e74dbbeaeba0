-- No sign is asked under the plain rule; under the other the first negative numerator is at fault.
use Rattle.lengths.proofs.Answered.{is-22, none_negative}
use Rattle.lengths.proofs.check_signs.Goals as goal

pub returns-then-lowest-numerators : goal.returns-then-lowest-numerators
returns-then-lowest-numerators c = is-22 c.args.rule c.in-Drawable.is c.args.numerators.now c.first_at_fault-lowest.result c.first_at_fault-lowest.ensures c.if-lowest-numerators.true

pub returns-else-lowest-numerators : goal.returns-else-lowest-numerators
returns-else-lowest-numerators c = none_negative c.args.rule c.in-Drawable.is c.args.numerators.now c.first_at_fault-lowest.result c.first_at_fault-lowest.ensures c.if-lowest-numerators.false
