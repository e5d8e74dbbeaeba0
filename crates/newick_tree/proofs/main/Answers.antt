-- What is written ends within the page.
use Rattle.writing.proofs.Writing.{wrote-within}
use Rattle.newick_tree.proofs.main.Goals as goal

pub put_out-requires : goal.put_out-requires
put_out-requires c = wrote-within c.answer.ensures.wrote
