-- The text's own answer first, then that of what it holds; what passes both is written.
use Rattle.phylip.proofs.Rewriting.{refused-text, refused-behind, text-refused, matter_refused, written-text}
use Rattle.phylip.proofs.rewritten.Goals as goal

pub returns-in-Err : goal.returns-in-Err
returns-in-Err c = let p = c.requires in
    refused-text c.args.text.now _ _ _ c.in-Err.refusal
    (text-refused c.args.text.now c.args.n p.0 _ _ _ _ p.1 p.2 c.read.result c.read.ensures c.in-Err.refusal c.in-Err.is)
    _ c.from.ensures c.refused_line.ensures

pub returns-in-Ok : goal.returns-in-Ok
returns-in-Ok c = let p = c.requires in
    written-text c.args.text.now c.args.n p.0 _ _ _ _ p.1 p.2 c.read.result c.read.ensures c.in_default.is c.args.out.now _ p.3 _ c.in-Ok.ensures

pub returns-in-Err-write : goal.returns-in-Err-write
returns-in-Err-write c = let p = c.requires in
    let g = c.in-Err-write in
    refused-behind c.args.text.now _ _ _ _ g.refusal
    (matter_refused c.args.text.now c.args.n p.0 _ _ _ _ p.1 p.2 c.read.result c.read.ensures c.in_default.is c.args.out.now _ p.3 g.refusal g.ensures)
    _ c.from-in-Err-write.ensures g.ensures.kept c.refused_line-in-Err-write.ensures
