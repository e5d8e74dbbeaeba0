-- The children of each vertex in one table.
use Rattle.std.specs.Prelude.{◌≡◌, List, ℕ, ◌+◌, ◌*◌, ◌≤◌, ◌<◌, length, get_or}
use Rattle.tree_theory.specs.Limits.{max_edges}
use Rattle.direct_theory.specs.Children.{child_of}

-- three for each of the 126 vertices
abbrev pub child_room : ℕ
child_room = 378

-- child k of w stands at 3w + k, and 0 where w has no such child
pub record Listed (K : ℕ) (par : ℕ → ℕ) (children : List ℕ) : Type 0 where
  pub size : length children ≡ child_room
  pub child : (w k : ℕ) → w ≤ max_edges → k < 3 → get_or children (3 * w + k) 0 ≡ child_of K par w k
