-- The way from i to j: the edges above i that are not above j, as a climb from i meets them. A path is the two ways.
use Rattle.std.specs.Prelude.{Bool, not, ◌&&◌, ℕ, ℤ, ◌*ℤ◌}
use Rattle.exact.specs.Sum.{sum, ind}
use Rattle.tree_theory.specs.Chain.{below}

-- v is above i and not above j
abbrev pub only : (ℕ → ℕ) → ℕ → ℕ → ℕ → Bool
only par i j v = below par i v && not (below par j v)

-- the sum of x over the way from i to j
unfoldable pub way : (ℕ → ℕ) → ℕ → (ℕ → ℤ) → ℕ → ℕ → ℤ
way par K x i j = sum K (λ v. ind (only par i j v) *ℤ x v)
