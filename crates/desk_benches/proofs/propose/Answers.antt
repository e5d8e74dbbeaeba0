-- The bench's tests first, then those of its lengths on what is posted; what passes both stands.
use Rattle.desk_benches.proofs.Proposals.{proposal-steps}
use Rattle.desk_benches.proofs.propose.Goals as goal

pub returns : goal.returns
returns c = let a = c.args in
    proposal-steps a.desk a.bench a.d a.numerators.now c.requires _ c.in_ok-posted.ensures c.judged.result c.judged.ensures c.in_ok-judged.was _ c.table.ensures _ c.with_table_on.ensures
