-- Name, cells and LF, each where the one before ends.
use Rattle.phylip_put.proofs.Putting.{name-is, row_room, row_written_lem}
use Rattle.phylip_put.proofs.put_row.Goals as goal

pub put-requires : goal.put-requires
put-requires c = row_room c.args.n c.args.i c.args.distances.now c.args.names.now _ c.requires.2 c.requires.0 (name-is c.args.names.now c.args.n c.args.i c.requires.1 c.requires.4) c.put_word-cells.ensures c.put_cells-last.ensures

pub returns : goal.returns
returns c = row_written_lem c.args.n c.args.i c.args.distances.now c.args.names.now _ c.requires.2 c.requires.0 (name-is c.args.names.now c.args.n c.args.i c.requires.1 c.requires.4) c.put_word-cells.ensures c.put_cells-last.ensures c.put.ensures
