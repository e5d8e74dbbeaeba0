-- What the matrix and the tree of a sheet hold, as functions of its bytes.
use Rattle.std.specs.Prelude.{List, ℕ, ◌+◌, ◌-◌, ◌*◌, get_or}
use Rattle.exact.specs.Table.{table}
use Rattle.matrix.specs.Place.{pair_count, from_rows}
use Rattle.endian.specs.Bytes.{number}
use Rattle.records.specs.Form.{body_at, start_of}

-- the matrix: N and the distances
abbrev pub strains_of : List ℕ → ℕ
strains_of s = number 2 s (body_at 0)

-- the distance at place k of the sheet's rows, and at place k of the matrix
abbrev pub row_at : List ℕ → ℕ → ℕ
row_at s k = number 2 s (body_at 0 + 2 + 2 * k)

abbrev pub distance_at : List ℕ → ℕ → ℕ
distance_at s = from_rows (strains_of s) (row_at s)

abbrev pub distances_of : List ℕ → List ℕ
distances_of s = table (pair_count (strains_of s)) (distance_at s)

-- the tree, the second record: its own N, V, and the parents
abbrev pub tree_strains_of : List ℕ → ℕ
tree_strains_of s = number 2 s (body_at (start_of s 1))

abbrev pub vertices_of : List ℕ → ℕ
vertices_of s = number 2 s (body_at (start_of s 1) + 2)

abbrev pub parents_at : List ℕ → ℕ
parents_at s = body_at (start_of s 1) + 4

abbrev pub parents_of : List ℕ → List ℕ
parents_of s = table (vertices_of s - 1) (λ k. get_or s (parents_at s + k) 0)
