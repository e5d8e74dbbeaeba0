-- A byte, then the length.
use native.Mathlib.Omega.{arith}
use mir.Facts.{to_z-of_z}
use Rattle.newick_put.proofs.Putting.{colon}
use Rattle.newick_put.proofs.put_edge.Goals as goal

pub returns : goal.returns
returns c = let p = c.put-next in
    let q = c.put_length in
    colon c.args.text.now p.new.text q.new.text c.args.at p.result q.result c.args.m (omega arith) p.ensures (simp (to_z-of_z c.ranges.m) at q.ensures)
