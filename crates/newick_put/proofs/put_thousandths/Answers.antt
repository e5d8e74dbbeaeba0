-- The digits before the point, then a word of four bytes.
use Rattle.newick_put.proofs.Putting.{wrote-thousandths, places-room}
use Rattle.newick_put.proofs.put_thousandths.Goals as goal

pub put_word-requires : goal.put_word-requires
put_word-requires c = let p = c.put_number-point in
    let a = c.args in
    places-room a.text.now p.new.text a.at p.result a.n c.requires p.ensures

pub returns : goal.returns
returns c = let p = c.put_number-point in
    let q = c.put_word in
    wrote-thousandths c.args.text.now p.new.text q.new.text c.args.at p.result q.result c.args.n c.requires p.ensures q.ensures
