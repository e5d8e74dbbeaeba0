-- Paths added up, over the entries x of the K edges of a tree of N strains: over the pairs that an edge parts, from the strains below a vertex
-- up to it, and from a vertex to all strains.
use Rattle.std.specs.Prelude.{◌≡◌, List, ℕ, ◌≤◌, ◌<◌, ℤ, pos, ◌*ℤ◌, length}
use Rattle.exact.specs.Sum.{sum, pairs, ind}
use Rattle.exact.specs.LeastSquares.{path}
use Rattle.exact.specs.Table.{entry_of}
use Rattle.tree_theory.specs.Limits.{max_vertices}
use Rattle.tree_theory.specs.Chain.{below, parts_pair}

-- the paths, over the entries x of K edges, of the pairs of N strains that edge v parts, added up
abbrev pub path_sum : ℕ → ℕ → (ℕ → ℕ) → (ℕ → ℤ) → ℕ → ℤ
path_sum N K par x v = pairs N (λ p. ind (parts_pair par v p) *ℤ path K (parts_pair par) x p)

-- how many of the N strains are below vertex v
unfoldable pub crowd : ℕ → (ℕ → ℕ) → ℕ → ℤ
crowd N par v = sum N (λ i. ind (below par i v))

-- the paths from the strains below vertex v up to it, added up
unfoldable pub ways_up : ℕ → ℕ → (ℕ → ℕ) → (ℕ → ℤ) → ℕ → ℤ
ways_up N K par x v = sum N (λ i. ind (below par i v) *ℤ path K (parts_pair par) x (i, v))

-- the paths from vertex v to all strains, added up
unfoldable pub ways_out : ℕ → ℕ → (ℕ → ℕ) → (ℕ → ℤ) → ℕ → ℤ
ways_out N K par x v = sum N (λ i. path K (parts_pair par) x (v, i))

-- a table of the vertices in which each strain counts one, and no other vertex
pub record Alone (N : ℕ) (sizes : List ℤ) : Type 0 where
  pub room : length sizes ≡ max_vertices
  pub strain : (w : ℕ) → w < N → entry_of sizes w ≡ pos 1
  pub other : (w : ℕ) → N ≤ w → entry_of sizes w ≡ pos 0

-- tables that say of each vertex how many strains are below it, and how far they have come
pub record Gathered (N K : ℕ) (par : ℕ → ℕ) (x : ℕ → ℤ) (sizes ways : List ℤ) : Type 0 where
  pub room_of_sizes : length sizes ≡ max_vertices
  pub room_of_ways : length ways ≡ max_vertices
  pub size : (v : ℕ) → v ≤ K → entry_of sizes v ≡ crowd N par v
  pub way : (v : ℕ) → v ≤ K → entry_of ways v ≡ ways_up N K par x v

-- a table that has for each of K edges the paths of the pairs that it parts, added up; nothing is said of what is behind them
pub record PathSums (N K : ℕ) (par : ℕ → ℕ) (x : ℕ → ℤ) (r : List ℤ) : Type 0 where
  pub size : length r ≡ max_vertices
  pub entries : (v : ℕ) → v < K → entry_of r v ≡ path_sum N K par x v
