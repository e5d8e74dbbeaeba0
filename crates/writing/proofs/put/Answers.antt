-- A store at a place leaves the bytes before it, the new byte and the bytes behind it, which is the one-byte text written there.
use Rattle.writing.proofs.Writing.{wrote-byte}
use Rattle.writing.proofs.put.Goals as goal

pub returns : goal.returns
returns c = wrote-byte c.args.text.now c.args.at c.args.byte c.requires
