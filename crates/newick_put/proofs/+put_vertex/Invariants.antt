-- The measure is the vertex: a child's number is below its parent's. The loop's invariant is `Doing`: what is written and what is left to
-- write are together the text of v.
use mathlib.Core.List.{List}
use Prim.Native.Nat.{ℕ, ◌-◌, ◌≤◌}
use lib.IntN.{ℤ}
use Rattle.newick_text.specs.Tree.{Row}
use Rattle.newick_text.specs.Table.{row_from}
use Rattle.newick_put.specs.Put.{edge_text, tree_at}
use Rattle.newick_put.proofs.Laying.{Doing}
use Rattle.newick_put.proofs.+put_vertex.Given as goal

-- the children of v from w on
abbrev pub rest : List ℕ → List ℤ → List ℕ → List ℕ → ℕ → ℕ → ℕ → Row
rest parents lengths names starts n v w = row_from parents (edge_text lengths) v (tree_at parents lengths names starts n) w (v - w)

abbrev pub decreases-put_vertex : goal.decreases-put_vertex
decreases-put_vertex l = l.v

abbrev pub invariant-loop-child : goal.invariant-loop-child
invariant-loop-child l = (l.child ≤ l.v) × Doing (tree_at l.parents l.lengths l.names l.starts l.n l.v) (rest l.parents l.lengths l.names l.starts l.n l.v l.child) l.lead l.initial.text l.text l.at l.end
