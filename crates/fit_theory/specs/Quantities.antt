-- The quantities of RULES, Clusters to The numbers of a fit: of a matrix ds of N strains, a tree ps, a denominator D
-- and numerators ns. Each is a sum of exact's, taken over the pairs of strains and the edges that part them.
use Rattle.std.specs.Prelude.{Bool, ◌&&◌, List, ℕ, ℤ, pos, ◌*ℤ◌, length}
use Rattle.exact.specs.Sum.{sum, pairs, ind}
use Rattle.exact.specs.LeastSquares.{path, remainder, edge_sum, sum_f, sum_r, sum_h}
use Rattle.exact.specs.Nearest.{nearest}
use Rattle.matrix.specs.Place.{measured, distance}
use Rattle.tree_theory.specs.Chain.{parent_of, parts_pair}
use Rattle.exact.specs.Table.{entry_of}

-- which pairs an edge parts
abbrev pub parts_of : List ℕ → ℕ → ℕ × ℕ → Bool
parts_of ps = parts_pair (parent_of ps)

-- which measured pairs it parts: these are the pairs that every sum runs over
abbrev pub parts_in : List ℕ → List ℕ → ℕ → ℕ × ℕ → Bool
parts_in ds ps v p = parts_of ps v p && measured ds p

-- the split sum of edge v: the distances of the measured pairs that it parts
abbrev pub split_sum : ℕ → List ℕ → List ℕ → ℕ → ℤ
split_sum N ds ps v = pairs N (λ p. ind (parts_in ds ps v p) *ℤ distance ds p)

-- p: the path of a pair, measured or not
abbrev pub path_of : List ℕ → List ℤ → ℕ × ℕ → ℤ
path_of ps ns p = path (length ps) (parts_of ps) (entry_of ns) p

-- r: the remainder of a measured pair; 0 for another
abbrev pub remainder_of : List ℕ → List ℕ → ℕ → List ℤ → ℕ × ℕ → ℤ
remainder_of ds ps D ns p = remainder (length ps) (parts_in ds ps) (distance ds) (pos D) (entry_of ns) p

-- edge v's sum of remainders
abbrev pub edge_sum_of : ℕ → List ℕ → List ℕ → ℕ → List ℤ → ℕ → ℤ
edge_sum_of N ds ps D ns v = edge_sum (pairs N) (length ps) (parts_in ds ps) (distance ds) (pos D) (entry_of ns) v

-- the numerator of the tree length
abbrev pub tree_length : List ℤ → ℤ
tree_length ns = sum (length ns) (entry_of ns)

-- F
abbrev pub f_of : ℕ → List ℕ → List ℕ → ℕ → List ℤ → ℤ
f_of N ds ps D ns = sum_f (pairs N) (length ps) (parts_in ds ps) (distance ds) (pos D) (entry_of ns)

-- m: the length of edge v in thousandths
abbrev pub rounded_of : ℕ → List ℤ → ℕ → ℤ
rounded_of D ns v = nearest D (entry_of ns v)

-- R
abbrev pub r_of : ℕ → List ℕ → List ℕ → ℕ → List ℤ → ℤ
r_of N ds ps D ns = sum_r (pairs N) (length ps) (parts_in ds ps) (distance ds) (rounded_of D ns)

-- H
abbrev pub h_of : ℕ → List ℕ → List ℕ → ℤ
h_of N ds ps = sum_h (pairs N) (length ps) (parts_in ds ps)
