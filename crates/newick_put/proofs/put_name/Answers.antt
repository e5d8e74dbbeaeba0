-- The bytes behind the length byte are one word.
use Rattle.newick_put.proofs.Putting.{named}
use Rattle.newick_put.proofs.put_name.Goals as goal

pub returns : goal.returns
returns c = let a = c.args in
    let p = c.put_word in
    named a.text.now p.new.text a.names.now a.at p.result a.start p.ensures
