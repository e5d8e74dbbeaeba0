-- What sums over lengths in digits need of the tables that they are lent, and what they give.
use Rattle.std.specs.Prelude.{List, ℕ, ◌*◌, ◌≤◌, ◌<◌, ℤ, pos, nat_abs, length, get_or}
use Rattle.exact.specs.Sum.{pairs}
use Rattle.exact.specs.LeastSquares.{edge_sum}
use Rattle.exact.specs.Table.{entry_of}
use Rattle.long_digits.specs.Digits.{base}
use Rattle.long_digits.specs.Clamp.{clamp, most}
use Rattle.matrix.specs.Limits.{max_distance}
use Rattle.matrix.specs.Place.{pair_count, known, distance}
use Rattle.tree_theory.specs.Limits.{max_edges}
use Rattle.tree_theory.specs.EdgeTable.{EdgeTable}
use Rattle.fit_theory.specs.Quantities.{parts_in}
use Rattle.long_theory.specs.Long.{long_denominator, long_numerator}
use Rattle.paths.specs.Standing.{Standing}

-- what the sums need of the tables that they are lent
pub record LongReady (N K L : ℕ) (Ds ds ps cs : List ℕ) (ns : List ℤ) : Type 0 where
  pub standing : Standing N K ps cs
  pub room : pair_count N ≤ length ds
  pub near : (k : ℕ) → known (get_or ds k 0) ≤ max_distance
  pub levels : L ≤ length Ds
  pub digits : (k : ℕ) → get_or Ds k 0 < base
  pub table : L * K ≤ length ns
  pub tops : (k : ℕ) → nat_abs (entry_of ns k) < base

-- each edge has the remainders of the measured pairs that it parts, cut off
abbrev pub LongSums : (N K L : ℕ) → (Ds ds ps : List ℕ) → (ns r : List ℤ) → Type 0
LongSums N K L Ds ds ps ns r = EdgeTable K
    (λ v. clamp most (edge_sum (pairs N) K (parts_in ds ps) (distance ds) (pos (long_denominator L Ds)) (long_numerator L K ns) v)) r

-- a table of L digits for each of K edges
pub record LongDigits (K L : ℕ) (ns : List ℤ) : Type 0 where
  pub few : K ≤ max_edges
  pub table : L * K ≤ length ns
  pub tops : (k : ℕ) → nat_abs (entry_of ns k) < base

-- numbers that `next_digit` takes: what was gathered of each edge, and the next digit's sums
pub record Levels (K : ℕ) (tops sums : List ℤ) : Type 0 where
  pub room : K ≤ length sums
  pub top : (v : ℕ) → v < K → nat_abs (entry_of tops v) ≤ most
  pub next : (v : ℕ) → v < K → nat_abs (entry_of sums v) ≤ 999999 * most
