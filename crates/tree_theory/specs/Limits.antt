-- The limits of a tree, from those of a matrix. `stated_limits` of the crate tree is proved to return these and the constants of `Tree`.
use Rattle.std.specs.Prelude.{ℕ}

-- V is at most 2N - 2, and N at most 64
abbrev pub max_vertices : ℕ
max_vertices = 126

-- edge v joins v to its parent, so there is one fewer
abbrev pub max_edges : ℕ
max_edges = 125
