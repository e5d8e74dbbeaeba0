-- The whole fits an i64, and the two tests cut it off.
use mathlib.Core.Path.{◌∙◌}
use Rattle.long_sums.proofs.Nexts.{product-fits, sum_fits, code-whole, beyond, behind, between}
use Rattle.long_sums.proofs.next_digit.Goals as goal

pub overflow_mul-whole : goal.overflow_mul-whole
overflow_mul-whole c = product-fits c.args.high c.args.digit c.requires.0 c.requires.1

pub overflow_add-whole : goal.overflow_add-whole
overflow_add-whole c = sum_fits c.args.high c.args.digit c.requires.0 c.requires.1

pub returns-then-whole-gt-MOST : goal.returns-then-whole-gt-MOST
returns-then-whole-gt-MOST c = beyond _ (rw (code-whole c.args.high c.args.digit c.requires.0 c.requires.1) at c.if-whole-gt-MOST.true)

pub returns-then-whole : goal.returns-then-whole
returns-then-whole c = behind _ (rw (code-whole c.args.high c.args.digit c.requires.0 c.requires.1) at c.if-whole.true)

pub returns : goal.returns
returns c = let e = code-whole c.args.high c.args.digit c.requires.0 c.requires.1 in
    e ∙ between _ (rw e at c.if-whole-gt-MOST.false) (rw e at c.if-whole.false)
