-- What the sums of a fit need of the tables that they are lent, and what one pair gives to F.
use Rattle.std.specs.Prelude.{List, ℕ, ◌≤◌, ℤ, ◌*ℤ◌, length, get_or}
use Rattle.matrix.specs.Limits.{max_distance}
use Rattle.matrix.specs.Place.{pair_count, known, distance}
use Rattle.lengths.specs.Limits.{max_denominator}
use Rattle.inner_paths.specs.Between.{Lengthened}
use Rattle.pairs.specs.Ready.{remainder_at}

-- an allowed tree with an entry for each edge, a denominator and distances in their ranges; the tables may be longer than the counts say
pub record Summable (N K D : ℕ) (ds ps : List ℕ) (ns : List ℤ) : Type 0 where
  pub lengthened : Lengthened N K ps ns
  pub most : D ≤ max_denominator
  pub room : pair_count N ≤ length ds
  pub near : (k : ℕ) → known (get_or ds k 0) ≤ max_distance

-- a missing pair gives nothing
abbrev pub term_of : ℕ → ℕ → List ℕ → List ℕ → List ℤ → ℕ × ℕ → ℤ
term_of K D ds ps ns p = distance ds p *ℤ remainder_at K D ds ps ns p
