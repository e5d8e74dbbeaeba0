-- Judged first; what passes is written.
use Rattle.newick_write.proofs.Judging.{judged-ready}
use Rattle.newick_write.proofs.write.Goals as goal

pub put_named-requires : goal.put_named-requires
put_named-requires c = let s = c.args in judged-ready s.names.now s.parents.now s.thousandths.now s.text.now c.in_ok-n.ensures
