-- The body lies where the head says.
use Rattle.records.proofs.Names.{walked_at}
use Rattle.records.proofs.names_at.Goals as goal

pub returns : goal.returns
returns c = let a = c.args in
    walked_at a.s.now a.at c.u32_at.result c.names_in.result.count c.names_in.result.end c.u32_at.ensures c.names_in.ensures
