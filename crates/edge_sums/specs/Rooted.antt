-- What handing shares up needs of the tree.
use Rattle.std.specs.Prelude.{List, ℕ, ◌≤◌, ◌<◌, length}
use Rattle.tree_theory.specs.Limits.{max_edges}
use Rattle.tree_theory.specs.Chain.{parent_of}

-- K edges, and every chain goes up to the root K
pub record Rooted (K : ℕ) (ps : List ℕ) : Type 0 where
  pub few : K ≤ max_edges
  pub room : K ≤ length ps
  pub up : (v : ℕ) → v < K → v < parent_of ps v
  pub top : (v : ℕ) → v < K → parent_of ps v ≤ K
