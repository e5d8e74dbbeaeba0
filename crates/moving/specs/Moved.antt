-- A table of the edges moved by one number along the path of two vertices.
use Rattle.std.specs.Prelude.{◌≡◌, ◌⊎◌, List, ℕ, ◌≤◌, ◌<◌, ℤ, nat_abs, ◌+ℤ◌, ◌*ℤ◌, length}
use Rattle.exact.specs.Sum.{ind}
use Rattle.exact.specs.Table.{entry_of}
use Rattle.tree_theory.specs.Limits.{max_edges}
use Rattle.tree_theory.specs.Chain.{parent_of, parts}
use Rattle.moving.specs.declared.Ends.{Ends}

-- each edge that parts i and j moved by z, every other entry as it was
pub record Moved (K : ℕ) (ps : List ℕ) (i j : ℕ) (z : ℤ) (before after : List ℤ) : Type 0 where
  pub size : length after ≡ length before
  pub entries : (v : ℕ) → v < K → entry_of after v ≡ entry_of before v +ℤ ind (parts (parent_of ps) v i j) *ℤ z
  pub rest : (v : ℕ) → K ≤ v → entry_of after v ≡ entry_of before v

-- how far from 0 an entry may be, and the number that it is moved by
abbrev pub farthest : ℕ
farthest = 1000000000000

-- what is asked: parents that rise to the root, and numbers that do not leave 64 bits
pub record Movable (K : ℕ) (ps : List ℕ) (z : ℤ) (x : List ℤ) : Type 0 where
  pub few : K ≤ max_edges
  pub room : K ≤ length ps
  pub up : (v : ℕ) → v < K → v < parent_of ps v
  pub top : (v : ℕ) → v < K → parent_of ps v ≤ K
  pub size : length x ≡ max_edges
  pub near : (v : ℕ) → v < K → nat_abs (entry_of x v) ≤ farthest
  pub by : nat_abs z ≤ farthest

-- two different vertices, the lower first
pub record Ordered (a b : ℕ) (r : Ends) : Type 0 where
  pub rising : r.low < r.high
  pub same : ((r.low ≡ a) × (r.high ≡ b)) ⊎ ((r.low ≡ b) × (r.high ≡ a))
