-- A run that is too long for a name is none.
use Rattle.newick_words.proofs.Words.{name-long, name-short}
use Rattle.newick_words.proofs.name_end.Goals as goal

pub returns-then-end-at-gt-MAX_NAME : goal.returns-then-end-at-gt-MAX_NAME
returns-then-end-at-gt-MAX_NAME c = name-long c.args.text.now c.args.at c.requires c.name_end-end.result c.name_end-end.ensures.0 c.if-end-at-gt-MAX_NAME.true

pub returns : goal.returns
returns c = name-short c.args.text.now c.args.at c.requires c.name_end-end.result c.name_end-end.ensures.0 c.name_end-end.ensures.1 c.if-end-at-gt-MAX_NAME.false
