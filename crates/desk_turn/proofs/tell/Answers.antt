-- The line is read, and what it means is answered.
use Rattle.desk_turn.proofs.Cut.{line-told}
use Rattle.desk_turn.proofs.tell.Goals as goal

pub returns : goal.returns
returns c = line-told _ _ _ _ _ _ _ _ _ c.requires.held c.read_line-meaning.ensures c.respond.ensures
