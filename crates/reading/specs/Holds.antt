-- What the records of a sheet hold, as functions of its bytes: the matrix and the tree, as in every form, and the lengths.
use Rattle.std.specs.Prelude.{cond, List, ℕ, ◌+◌, ◌*◌, ltb, ℤ}
use Rattle.exact.specs.Table.{table}
use Rattle.endian.specs.Bytes.{number, twos}
use Rattle.records.specs.Form.{body_at, start_of}
pub use Rattle.front.specs.Holds.{strains_of, row_at, distance_at, distances_of, tree_strains_of, vertices_of, parents_at, parents_of}

-- the lengths, the third: D, K and the numerators
abbrev pub denominator_of : List ℕ → ℕ
denominator_of s = number 4 s (body_at (start_of s 2))

abbrev pub edges_of : List ℕ → ℕ
edges_of s = number 2 s (body_at (start_of s 2) + 4)

abbrev pub numerator_at : List ℕ → ℕ → ℤ
numerator_at s k = twos (number 8 s (body_at (start_of s 2) + 6 + 8 * k))

abbrev pub numerators_of : List ℕ → List ℤ
numerators_of s = table (edges_of s) (numerator_at s)

-- D and K of a sheet of so many records: 0 where it has no lengths
abbrev pub denominator_in : ℕ → List ℕ → ℕ
denominator_in count s = cond (ltb 2 count) (denominator_of s) 0

abbrev pub edges_in : ℕ → List ℕ → ℕ
edges_in count s = cond (ltb 2 count) (edges_of s) 0
