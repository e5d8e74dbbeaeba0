-- Where a pair of strains stands: in a matrix, and in the rows of a sheet or of a path buffer. Nothing else knows either.
use Rattle.std.specs.Prelude.{◌≡◌, Bool, false, cond, not, List, ℕ, zero, suc, ◌+◌, ◌-◌, ◌*◌, ◌/◌, eqb, ltb, ℤ, pos, length, get_or}
use Rattle.verdict.specs.Table.{some}
use Rattle.matrix.specs.Limits.{missing}

-- how many pairs there are
abbrev pub pair_count : ℕ → ℕ
pair_count N = N * (N - 1) / 2

-- ---- in a matrix: 01, 02, 12, 03, 13, 23, ..
-- the place of the pair i j, with i below j: behind all pairs of the strains before j. How many strains there are does not matter.
unfoldable pub place : ℕ → ℕ → ℕ
place i j = j * (j - 1) / 2 + i

-- the place of a pair, whichever strain is named first
unfoldable pub pair_place : ℕ → ℕ → ℕ
pair_place i j = cond (ltb i j) (place i j) (place j i)

-- the pair behind another, and the pair at each place
abbrev pub behind : ℕ × ℕ → ℕ × ℕ
behind p = cond (ltb (p.0 + 1) p.1) (p.0 + 1, p.1) (0, p.1 + 1)

unfoldable pub pair_at : ℕ → ℕ × ℕ
pair_at zero = (0, 1)
pair_at (suc k) = behind (pair_at k)

-- ---- what stands there: a distance, or the mark of a pair that was not measured
abbrev pub is_measured : ℕ → Bool
is_measured x = not (eqb x missing)

-- the distance, and 0 for a pair that was not measured: no sum runs over it
unfoldable pub known : ℕ → ℕ
known x = cond (is_measured x) x 0

-- of a pair: whether it is measured, and d
abbrev pub measured : List ℕ → ℕ × ℕ → Bool
measured ds p = is_measured (get_or ds (place p.0 p.1) 0)

abbrev pub distance : List ℕ → ℕ × ℕ → ℤ
distance ds p = pos (known (get_or ds (place p.0 p.1) 0))

-- of two strains, whichever is named first
abbrev pub measured_of : List ℕ → ℕ → ℕ → Bool
measured_of ds i j = is_measured (get_or ds (pair_place i j) 0)

abbrev pub distance_of : List ℕ → ℕ → ℕ → ℤ
distance_of ds i j = pos (known (get_or ds (pair_place i j) 0))

-- some pair is not measured; a matrix of which none is missing is complete
abbrev pub some_missing : List ℕ → Bool
some_missing ds = some (length ds) (λ k. not (is_measured (get_or ds k 0)))

abbrev pub Complete : List ℕ → Type 0
Complete ds = some_missing ds ≡ false

-- ---- in the rows of N strains: 01, 02, .., 0(N-1), 12, 13, ..
-- where the pairs of strain i with a later one begin: behind those of the strains before it
unfoldable pub row_start : ℕ → ℕ → ℕ
row_start N zero = 0
row_start N (suc i) = row_start N i + (N - suc i)

-- the place of the pair i j, with i below j
unfoldable pub row_place : ℕ → ℕ → ℕ → ℕ
row_place N i j = row_start N i + (j - suc i)

-- ---- from one to the other: what stands at each place of a matrix, by what stands at each place of the rows
abbrev pub from_rows : ℕ → (ℕ → ℕ) → ℕ → ℕ
from_rows N rows k = rows (row_place N (pair_at k).0 (pair_at k).1)
