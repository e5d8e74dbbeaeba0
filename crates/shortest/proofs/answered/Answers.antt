-- The line ends within the room for it, and the run behind the sheet has one sheet more.
use Rattle.shortest.proofs.Going.{ends-within, goes_on}
use Rattle.shortest.proofs.answered.Goals as goal

pub put_out-requires : goal.put_out-requires
put_out-requires g c = ends-within c.args.run _ _ _ c.turn-turn.result c.requires.held c.turn-turn.ensures

pub returns : goal.returns
returns g c = goes_on c.args.run _ _ _ c.turn-turn.result c.requires.held c.turn-turn.ensures
