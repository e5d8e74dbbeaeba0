-- What a sum over pairs needs of the tables that it is lent: an allowed tree with its clusters, and entries in their ranges. The
-- tables may be longer than the counts say.
use Rattle.std.specs.Prelude.{List, ℕ, ◌≤◌, ◌<◌, ℤ, pos, nat_abs, length, get_or}
use Rattle.exact.specs.LeastSquares.{remainder}
use Rattle.exact.specs.Table.{entry_of}
use Rattle.matrix.specs.Limits.{max_distance}
use Rattle.matrix.specs.Place.{pair_count, known, distance}
use Rattle.lengths.specs.Limits.{max_denominator, max_numerator}
use Rattle.fit_theory.specs.Quantities.{parts_in}
use Rattle.paths.specs.Standing.{Standing, Small}

pub record Ready (N K D : ℕ) (ds ps cs : List ℕ) (ns : List ℤ) : Type 0 where
  pub standing : Standing N K ps cs
  pub most : D ≤ max_denominator
  pub room : pair_count N ≤ length ds
  pub near : (k : ℕ) → known (get_or ds k 0) ≤ max_distance
  pub small : Small K ns

-- a numerator for each edge, in the range of RULES, Lengths; a rounded length may be a thousand times as large
pub record InRange (K : ℕ) (ns : List ℤ) : Type 0 where
  pub room : K ≤ length ns
  pub near : (v : ℕ) → v < K → nat_abs (entry_of ns v) ≤ max_numerator

-- r: the remainder of a measured pair; 0 for another
abbrev pub remainder_at : ℕ → ℕ → List ℕ → List ℕ → List ℤ → ℕ × ℕ → ℤ
remainder_at K D ds ps ns = remainder K (parts_in ds ps) (distance ds) (pos D) (entry_of ns)
