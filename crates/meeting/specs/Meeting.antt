-- Strains that meet at a vertex: the strains of a mask, their ways up to it, the remainder of a pair where its path turns, and what
-- it gives to the shares.
use Rattle.std.specs.Prelude.{◌≡◌, ℕ, suc, ◌+◌, ◌*◌, ◌<◌, ◌≤◌, true, cond, ◌≢◌, List, length, ℤ, pos, ◌+ℤ◌, ◌-ℤ◌, ◌*ℤ◌, ◌==◌, count_ones, slice_index, unsigned_abs}
use Rattle.exact.specs.Sum.{sum, ind}
use Rattle.matrix.specs.Limits.{max_strains, max_distance}
use Rattle.matrix.specs.Place.{pair_count, known, measured_of, distance_of}
use Rattle.lengths.specs.Limits.{max_denominator, max_numerator}
use Rattle.tree_theory.specs.Limits.{max_edges, max_vertices}
use Rattle.tree_theory.specs.Chain.{below}
use Rattle.tree_theory.specs.Cluster.{bit_at}
use Rattle.exact.specs.Table.{entry_of}
use Rattle.meeting.specs.declared.Low.{Low}
use Rattle.meeting.specs.Shares.{under, mass}

-- ---- sizes
-- a way over every edge, each as long as can be
abbrev pub farthest_way : ℕ
farthest_way = max_edges * max_numerator

-- a distance and a path, each as far as can be
abbrev pub largest_remainder : ℕ
largest_remainder = max_denominator * max_distance + farthest_way

-- the shares of one pair together: its remainder at both strains, and twice where they meet
abbrev pub pair_mass : ℕ
pair_mass = 4 * largest_remainder

-- ---- masks
-- f added over the strains of a mask
unfoldable pub over : ℕ → (ℕ → ℤ) → ℤ
over m f = sum max_strains (λ i. ind (bit_at m i) *ℤ f i)

-- the lowest strain of a mask, and the mask without it
pub record LowestStrain (m : ℕ) (r : Low) : Type 0 where
  pub within : r.strain < max_strains
  pub less : r.rest < m
  pub bits : (k : ℕ) → ind (bit_at m k) ≡ ind (bit_at r.rest k) +ℤ ind (k == r.strain)
  pub fewer : count_ones m ≡ suc (count_ones r.rest)

-- x is added to the way of every strain of a mask, and the other ways stay
pub record Carried (here : ℕ) (x : ℤ) (old new : List ℤ) : Type 0 where
  pub size : length new ≡ max_strains
  pub entries : (i : ℕ) → entry_of new i ≡ entry_of old i +ℤ ind (bit_at here i) *ℤ x

-- ---- pairs
-- of a measured pair D times its distance, less the ways of its two strains: its remainder, where the ways are those up to where its path
-- turns; 0 for a pair that is missing
unfoldable pub remainder_by_ways : ℕ → List ℕ → List ℤ → ℕ → ℕ → ℤ
remainder_by_ways D ds ways i j = cond (measured_of ds i j) (pos D *ℤ distance_of ds i j -ℤ entry_of ways i -ℤ entry_of ways j) (pos 0)

-- what this needs of the tables
pub record Carrying (N D : ℕ) (ds : List ℕ) (ways : List ℤ) : Type 0 where
  pub few : N ≤ max_strains
  pub room : pair_count N ≤ length ds
  pub most : D ≤ max_denominator
  pub near : (k : ℕ) → known (slice_index ds k) ≤ max_distance
  pub low : (i : ℕ) → unsigned_abs (entry_of ways i) ≤ farthest_way

-- strain j is none of the mask's, and what is worked from their ways is a remainder's size
pub record Apart (N D : ℕ) (ds : List ℕ) (ways : List ℤ) (there j : ℕ) : Type 0 where
  pub strains : (i : ℕ) → bit_at there i ≡ true → (i < N) × (j < N) × (i ≢ j)
  pub near : (i : ℕ) → bit_at there i ≡ true → unsigned_abs (remainder_by_ways D ds ways i j) ≤ largest_remainder

-- the remainder of strain j with each strain of the mask is put at that strain, and together they come to r
pub record Rowed (D : ℕ) (ds : List ℕ) (ways : List ℤ) (there j : ℕ) (r : ℤ) (old new : List ℤ) : Type 0 where
  pub size : length new ≡ max_vertices
  pub whole : r ≡ over there (λ i. remainder_by_ways D ds ways i j)
  pub more : mass max_vertices new + 3 * unsigned_abs r ≤ mass max_vertices old + pair_mass * count_ones there
  pub entries : (par : ℕ → ℕ) (v : ℕ)
      → under par new v ≡ under par old v +ℤ over there (λ i. ind (below par i v) *ℤ remainder_by_ways D ds ways i j)

-- every pair of a strain of one mask and a strain of the other: its remainder is put at both, and taken off twice at m
pub record Met (D : ℕ) (ds : List ℕ) (ways : List ℤ) (here there m : ℕ) (old new : List ℤ) : Type 0 where
  pub size : length new ≡ max_vertices
  pub more : mass max_vertices new ≤ mass max_vertices old + pair_mass * (count_ones here * count_ones there)
  pub entries : (par : ℕ → ℕ) (v : ℕ) → under par new v ≡ under par old v +ℤ over here (λ j. over there (λ i.
      (ind (below par i v) +ℤ ind (below par j v) -ℤ pos 2 *ℤ ind (below par m v)) *ℤ remainder_by_ways D ds ways i j))
