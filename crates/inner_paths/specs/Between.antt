-- A table of the paths between inner vertices, counted from the root K down: of the vertices K - p and K - q it has the path at the place of
-- the pair p q, as a matrix has distances (matrix/specs/Place.antt).
use Rattle.std.specs.Prelude.{◌≡◌, cond, List, ◌≢◌, ℕ, ◌-◌, ◌≤◌, ◌<◌, eqb, ℤ, pos, length}
use Rattle.exact.specs.LeastSquares.{path}
use Rattle.exact.specs.Table.{entry_of}
use Rattle.matrix.specs.Place.{pair_place}
use Rattle.tree_theory.specs.Chain.{parent_of, parts_pair}
use Rattle.tree_theory.specs.Allowed.{Allowed}
use Rattle.paths.specs.Standing.{Small}

-- an allowed tree of N strains and K edges, with an entry for each edge
pub record Lengthened (N K : ℕ) (ps : List ℕ) (x : List ℤ) : Type 0 where
  pub room : K ≤ length ps
  pub allowed : Allowed N K (parent_of ps)
  pub small : Small K x

-- the pairs of 62 vertices: no more are inner
abbrev pub spots : ℕ
spots = 1891

-- the paths between the first `many` vertices from the root down, over the entries x of K edges
pub record Between (K : ℕ) (par : ℕ → ℕ) (x : ℕ → ℤ) (many : ℕ) (t : List ℤ) : Type 0 where
  pub size : length t ≡ spots
  pub path : (p q : ℕ) → p ≢ q → p < many → q < many → entry_of t (pair_place p q) ≡ path K (parts_pair par) x (K - p, K - q)

-- what a table says of the vertices p and q from the root down: no path from a vertex to itself
unfoldable pub apart_in : List ℤ → ℕ → ℕ → ℤ
apart_in t p q = cond (eqb p q) (pos 0) (entry_of t (pair_place p q))
