-- By whether there is an order.
use Rattle.desk_tables.proofs.source.Goals as goal

pub row_place-requires : goal.row_place-requires
row_place-requires c = c.requires c.if-ordered.true

pub returns-then-ordered : goal.returns-then-ordered
returns-then-ordered c = simp c.if-ordered.true c.row_place.ensures
