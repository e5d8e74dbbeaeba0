-- The squares of the numbers of a table.
use Rattle.std.specs.Prelude.{ℕ, ◌*◌, List, ℤ, pos, ◌*ℤ◌, slice_index}
use Rattle.matrix.specs.Limits.{max_distance, max_pairs}

abbrev pub square_at : List ℕ → ℕ → ℤ
square_at ds k = pos (slice_index ds k) *ℤ pos (slice_index ds k)

-- the square of the greatest distance, and so many as there are pairs at the most
abbrev pub largest_square : ℕ
largest_square = max_distance * max_distance

abbrev pub max_squares : ℕ
max_squares = max_pairs * largest_square
