-- The sums of the edges over a table that has a number for every pair: what is asked of it, and what each function adds up.
use Rattle.std.specs.Prelude.{◌≡◌, ℕ, ◌*◌, ◌<◌, ◌≤◌, true, ◌≢◌, List, length, ℤ, pos, ◌+ℤ◌, ◌*ℤ◌, ◌==◌, slice_index}
use Rattle.exact.specs.Sum.{sum, pairs, ind}
use Rattle.exact.specs.Table.{entry_of}
use Rattle.matrix.specs.Limits.{max_distance, max_pairs}
use Rattle.matrix.specs.Place.{pair_count, place, pair_place}
use Rattle.tree_theory.specs.Limits.{max_edges}
use Rattle.tree_theory.specs.Chain.{parent_of, parts_pair}
use Rattle.tree_theory.specs.Allowed.{Allowed}
use Rattle.tree_theory.specs.Cluster.{bit_at}

-- what a table has for a pair
abbrev pub entry_at : List ℕ → ℕ × ℕ → ℤ
entry_at ds p = pos (slice_index ds (place p.0 p.1))

-- what it has for two strains, whichever is named first
abbrev pub entry_of_two : List ℕ → ℕ → ℕ → ℤ
entry_of_two ds i j = pos (slice_index ds (pair_place i j))

-- what it has for the pairs of N strains that edge v parts, added up
abbrev pub split_of : ℕ → List ℕ → (ℕ → ℕ) → ℕ → ℤ
split_of N ds par v = pairs N (λ p. ind (parts_pair par v p) *ℤ entry_at ds p)

-- what is asked of the lent tables
pub record Splittable (N K : ℕ) (ds ps : List ℕ) : Type 0 where
  pub room : K ≤ length ps
  pub allowed : Allowed N K (parent_of ps)
  pub held : pair_count N ≤ length ds
  pub near : (k : ℕ) → slice_index ds k ≤ max_distance

-- ---- the rows of the strains
-- what a pair adds to the row of strain w
abbrev pub in_row : List ℕ → ℕ → ℕ × ℕ → ℤ
in_row ds w p = (ind (w == p.0) +ℤ ind (w == p.1)) *ℤ entry_at ds p

-- no row of whole pairs is farther from 0
abbrev pub max_row : ℕ
max_row = max_pairs * (2 * max_distance)

-- the pairs of strain j with the strains before it are added to the rows of both
pub record RowAdded (ds : List ℕ) (j : ℕ) (old new : List ℤ) : Type 0 where
  pub size : length new ≡ max_edges
  pub entries : (w : ℕ) → entry_of new w ≡ entry_of old w +ℤ sum j (λ a. in_row ds w (a, j))

-- the row of every strain, and 0 for the vertices that are none
pub record Rows (N : ℕ) (ds : List ℕ) (own : List ℤ) : Type 0 where
  pub size : length own ≡ max_edges
  pub entries : (w : ℕ) → entry_of own w ≡ pairs N (in_row ds w)

-- ---- between strains
-- strain j is none of the mask's, and the table has room for its pairs with them
abbrev pub Apart : List ℕ → ℕ → ℕ → Type 0
Apart ds others j = (i : ℕ) → bit_at others i ≡ true → (i ≢ j) × (pair_place i j < length ds)
