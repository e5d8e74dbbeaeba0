-- What the length of an edge is worked from.
use Rattle.std.specs.Prelude.{List, ℕ, ℤ}
use Rattle.tree_theory.specs.Chain.{parent_of}
use Rattle.paths.specs.Standing.{Standing}
use Rattle.direct_theory.specs.Children.{Resolved}
use Rattle.direct_theory.specs.Splits.{Gathered}
use Rattle.neighbours.specs.Listed.{Listed}

-- a resolved tree with the cluster of each vertex, its children in a table, and split sums that are not too large
pub record Known (N K : ℕ) (ps cs children : List ℕ) (sums : List ℤ) : Type 0 where
  pub standing : Standing N K ps cs
  pub resolved : Resolved N K (parent_of ps)
  pub listed : Listed K (parent_of ps) children
  pub gathered : Gathered K sums
