-- The cells of a grid, and distances that are taken from it one by one.
use Rattle.std.specs.Prelude.{◌≡◌, Bool, cond, not, List, ℕ, ◌+◌, ◌*◌, ◌<◌, eqb, get_or}
use Rattle.matrix.specs.Limits.{max_strains}
use Rattle.matrix.specs.Place.{pair_at}

-- what stands in row i and column j
abbrev pub grid_at : List ℕ → ℕ → ℕ → ℕ
grid_at grid i j = get_or grid (max_strains * i + j) 0

-- 19: it is not what is due there: zero on the diagonal, elsewhere what stands on the other side of it
abbrev pub cell_off : List ℕ → ℕ → ℕ → Bool
cell_off grid i j = not (eqb (grid_at grid i j) (cond (eqb i j) 0 (grid_at grid j i)))

-- the first k distances are taken, each from the cell of its pair
abbrev pub Filling : List ℕ → ℕ → List ℕ → Type 0
Filling grid k ds = (m : ℕ) → m < k → get_or ds m 0 ≡ grid_at grid (pair_at m).0 (pair_at m).1
