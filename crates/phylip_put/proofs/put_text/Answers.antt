-- Count, LF and rows, each where the one before ends.
use native.Mathlib.Omega.{arith}
use Rattle.phylip_put.proofs.Putting.{count_room, line-room, text-written}
use Rattle.phylip_put.proofs.put_text.Goals as goal

pub put-rows-requires : goal.put-rows-requires
put-rows-requires c = let u = count_room c.args.n c.requires.0 c.put_number-count.ensures in omega (arith, u.0, u.1, c.requires.0)

pub put_rows-requires : goal.put_rows-requires
put_rows-requires c = let u = count_room c.args.n c.requires.0 c.put_number-count.ensures in let v = line-room (omega (arith, u.0, u.1, c.requires.0)) c.put-rows.ensures in (omega (arith, u.0, u.1, v.0, v.1, c.requires.0, c.requires.1), c.requires.1, c.requires.2, c.requires.3)

pub returns : goal.returns
returns c = text-written c.args.n c.args.distances.now c.args.names.now c.requires.1 c.requires.0 c.put_number-count.ensures c.put-rows.ensures c.put_rows.ensures
