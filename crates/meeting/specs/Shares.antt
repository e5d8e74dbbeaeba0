-- Shares of the vertices: numbers that are put at single vertices and then handed up, so that each edge gets those put below it.
use Rattle.std.specs.Prelude.{◌≡◌, ℕ, zero, suc, ◌+◌, ◌*◌, ◌≤◌, List, length, ℤ, pos, ◌+ℤ◌, ◌-ℤ◌, ◌*ℤ◌, ◌==◌, unsigned_abs}
use Rattle.exact.specs.Sum.{sum, ind}
use Rattle.tree_theory.specs.Limits.{max_vertices}
use Rattle.tree_theory.specs.Chain.{below}
use Rattle.exact.specs.Table.{entry_of}

-- x is added to the entry of vertex k, and every other entry stays
pub record Put (k : ℕ) (x : ℤ) (old new : List ℤ) : Type 0 where
  pub size : length new ≡ max_vertices
  pub entries : (w : ℕ) → entry_of new w ≡ entry_of old w +ℤ ind (w == k) *ℤ x

-- what the shares below v come to, v's own among them
unfoldable pub under : (ℕ → ℕ) → List ℤ → ℕ → ℤ
under par own v = sum max_vertices (λ u. ind (below par u v) *ℤ entry_of own u)

-- the magnitudes of the first n shares together
unfoldable pub mass : ℕ → List ℤ → ℕ
mass zero own = 0
mass (suc n) own = mass n own + unsigned_abs (entry_of own n)

-- r put at j, and taken off twice at m
pub record Given (j m : ℕ) (r : ℤ) (old new : List ℤ) : Type 0 where
  pub size : length new ≡ max_vertices
  pub more : mass max_vertices new ≤ mass max_vertices old + 3 * unsigned_abs r
  pub entries : (par : ℕ → ℕ) (v : ℕ) → under par new v ≡ under par old v +ℤ (ind (below par j v) -ℤ pos 2 *ℤ ind (below par m v)) *ℤ r
