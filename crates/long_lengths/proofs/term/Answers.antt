-- Each part fits an i64.
use Rattle.long_lengths.proofs.Terms.{left-fits, right-fits, both-fits, both_is}
use Rattle.long_lengths.proofs.term.Goals as goal

pub overflow_mul-result : goal.overflow_mul-result
overflow_mul-result c = left-fits c.args.x c.args.b c.args.d c.requires.0 c.requires.1 c.requires.2

pub overflow_mul-result-2 : goal.overflow_mul-result-2
overflow_mul-result-2 c = right-fits c.args.x c.args.b c.args.d c.requires.0 c.requires.1 c.requires.2

pub overflow_add-result : goal.overflow_add-result
overflow_add-result c = both-fits c.args.x c.args.b c.args.d c.requires.0 c.requires.1 c.requires.2

pub returns : goal.returns
returns c = both_is c.args.x c.args.b c.args.d c.requires.0 c.requires.1 c.requires.2
