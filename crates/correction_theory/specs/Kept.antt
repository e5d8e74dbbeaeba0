-- What is kept beside a matrix: for every edge its split sum and how many measured pairs it parts. A correction moves them at the
-- edges that part its pair, by the new share of the pair less the old one, and 26 is read off the counts.
use Rattle.std.specs.Prelude.{◌≡◌, Bool, cond, List, ℕ, eqb, ℤ, pos, nat_abs, ◌+ℤ◌, ◌-ℤ◌, ◌*ℤ◌, length, get_or}
use Rattle.exact.specs.Sum.{pairs, ind}
use Rattle.exact.specs.Table.{table}
use Rattle.verdict.specs.Answer.{Answer, fault, at_first, ◌or_else◌}
use Rattle.verdict.specs.declared.Place.TheVariants.{Edge}
use Rattle.matrix.specs.Place.{pair_place, is_measured, known}
use Rattle.tree_theory.specs.EdgeTable.{EdgeTable}
use Rattle.fit_theory.specs.Quantities.{parts_of, parts_in, split_sum}
use Rattle.fit_theory.specs.Stands.{Posted}
use Rattle.correction_theory.specs.Correction.{Correction, pair_tests, corrected, on_pass}

-- how many measured pairs edge v parts
abbrev pub split_count : ℕ → List ℕ → List ℕ → ℕ → ℤ
split_count N ds ps v = pairs N (λ p. ind (parts_in ds ps v p))

-- how a count is worked afresh: 1 for a measured pair, 0 for a missing one
abbrev pub one : ℕ → ℕ
one x = cond (is_measured x) 1 0

-- the matrix with that for each pair; its split sums are the counts
abbrev pub ones : List ℕ → List ℕ
ones ds = table (length ds) (λ k. one (get_or ds k 0))

-- a matrix, and for each edge the sum and the count that are kept beside it
pub record Keeping : Type 0 where
  pub distances : List ℕ
  pub sums : ℕ → ℤ
  pub counts : ℕ → ℤ

-- a matrix with the split sums and the counts worked afresh
abbrev pub afresh : ℕ → List ℕ → List ℕ → Keeping
afresh N ds ps = record { distances = ds; sums = split_sum N ds ps; counts = split_count N ds ps }

-- tables that hold what is kept, zeros behind the last edge
pub record Holds (K : ℕ) (k : Keeping) (ds : List ℕ) (sums counts : List ℤ) : Type 0 where
  pub matrix : ds ≡ k.distances
  pub split : EdgeTable K k.sums sums
  pub counted : EdgeTable K k.counts counts

-- a matrix and a tree that pass, and tables that hold the split sums and the counts beside them
pub record Beside (N : ℕ) (ds ps : List ℕ) (sums counts : List ℤ) : Type 0 where
  pub posted : Posted N ds ps
  pub split : EdgeTable (length ps) (split_sum N ds ps) sums
  pub counted : EdgeTable (length ps) (split_count N ds ps) counts

-- what an edge has, moved by z where the edge parts the pair
abbrev pub moved : List ℕ → Correction → ℤ → (ℕ → ℤ) → ℕ → ℤ
moved ps c z x v = x v +ℤ ind (parts_of ps v (c.i, c.j)) *ℤ z

-- what stands for the pair before the correction
abbrev pub before : List ℕ → Correction → ℕ
before ds c = get_or ds (pair_place c.i c.j) 0

-- by how much a split sum moves: the new distance less the old one, a missing pair adding nothing
abbrev pub sum_change : List ℕ → Correction → ℤ
sum_change ds c = pos (known c.far) -ℤ pos (known (before ds c))

-- by how much a count moves: 1 where the mark is lifted, -1 where it is set, 0 otherwise
abbrev pub count_change : List ℕ → Correction → ℤ
count_change ds c = ind (is_measured c.far) -ℤ ind (is_measured (before ds c))

-- what a correction that passes makes of all three
abbrev pub effect : List ℕ → Correction → Keeping → Keeping
effect ps c k = record {
  distances = corrected k.distances c;
  sums = moved ps c (sum_change k.distances c) k.sums;
  counts = moved ps c (count_change k.distances c) k.counts;
}

-- an edge is left with no measured pair: its count comes to zero
abbrev pub emptied : List ℕ → Correction → Keeping → ℕ → Bool
emptied ps c k v = eqb (nat_abs ((effect ps c k).counts v)) 0

-- the answer to a correction as it is read off what is kept: 24, 7, then 26 at the lowest edge that would be left with none
abbrev pub kept_tests : ℕ → List ℕ → Correction → Keeping → Answer
kept_tests N ps c k = pair_tests N c or_else at_first (length ps) (emptied ps c k) (λ v. fault 26 (Edge v))

-- what is kept after a correction
abbrev pub keep : ℕ → List ℕ → Correction → Keeping → Keeping
keep N ps c k = on_pass (kept_tests N ps c k) (effect ps c k) k
