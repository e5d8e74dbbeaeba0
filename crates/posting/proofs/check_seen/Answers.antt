-- `check_seen`: the answer at the first edge that was found.
use Rattle.posting.proofs.Posting.{found, none}
use Rattle.posting.proofs.check_seen.Goals as goal

pub returns-then-edge-parents : goal.returns-then-edge-parents
returns-then-edge-parents c = let a = c.args in found a.n a.distances.now a.parents.now _ c.first_unseen-edge.ensures c.if-edge-parents.true

pub returns : goal.returns
returns c = let a = c.args in none a.n a.distances.now a.parents.now _ c.first_unseen-edge.ensures c.if-edge-parents.false
