-- The bytes of the cell are one word, put at once.
use Rattle.phylip_put.proofs.Putting.{wrote_as, cell_missing, cell_decimal}
use Rattle.phylip_put.proofs.put_cell.Goals as goal

pub returns-then-units-eq-MISSING : goal.returns-then-units-eq-MISSING
returns-then-units-eq-MISSING c = wrote_as (cell_missing _ c.if-units-eq-MISSING.true) c.put_word.ensures

pub returns : goal.returns
returns c = wrote_as (cell_decimal _ c.if-units-eq-MISSING.false) c.put_word-2.ensures
