-- The measure is twice the bytes left, and one more for `children`, which calls `vertex` at its own place.
use Prim.Native.Nat.{◌+◌, ◌-◌, ◌*◌}
use lib.ListN.{length}
use Rattle.newick_fill.proofs.+children_vertex.Given as goal

abbrev pub decreases-children : goal.decreases-children
decreases-children l = 2 * (length l.text.now - l.at) + 1

abbrev pub decreases-vertex : goal.decreases-vertex
decreases-vertex l = 2 * (length l.text.now - l.at)
