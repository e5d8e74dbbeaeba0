-- The line ends within the room for it.
use Rattle.writing.proofs.Writing.{wrote-within}
use Rattle.shortest.proofs.cut.Goals as goal

pub put_out-requires : goal.put_out-requires
put_out-requires g c = wrote-within c.cut_line-end.ensures
