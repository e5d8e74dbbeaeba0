-- Tables of what each level gives, and what F's levels are worked out from.
use Rattle.std.specs.Prelude.{◌≡◌, List, ℕ, ◌≤◌, ◌<◌, ℤ, nat_abs, ◌-ℤ◌, ◌*ℤ◌, length}
use Rattle.exact.specs.Sum.{sum}
use Rattle.exact.specs.Table.{entry_of}
use Rattle.long_digits.specs.Digits.{base}
use Rattle.tree_theory.specs.Limits.{max_edges}
use Rattle.long_theory.specs.Long.{max_levels}

-- an array with g k for each of L levels; all its numbers are far from the end of an i64
pub record LevelTable (L : ℕ) (g : ℕ → ℤ) (r : List ℤ) : Type 0 where
  pub size : length r ≡ max_levels
  pub entries : (k : ℕ) → k < L → entry_of r k ≡ g k
  pub near : (k : ℕ) → k < L → nat_abs (g k) ≤ 9000000000000000000

-- the sum of squared distances, at most 2,016 · 50,000², and the split sum of each edge, at most 2,016 · 50,000
pub record Splits (K : ℕ) (squares : ℤ) (splits : List ℤ) : Type 0 where
  pub few : K ≤ max_edges
  pub whole : nat_abs squares ≤ 5040000000000
  pub size : length splits ≡ max_edges
  pub each : (v : ℕ) → v < K → nat_abs (entry_of splits v) ≤ 100800000

-- a digit for each edge
pub record Level (K : ℕ) (level : List ℤ) : Type 0 where
  pub room : K ≤ length level
  pub digits : (v : ℕ) → nat_abs (entry_of level v) < base

-- one level of F
abbrev pub level_f : ℕ → ℤ → (ℕ → ℤ) → ℤ → (ℕ → ℤ) → ℤ
level_f K squares splits D n = D *ℤ squares -ℤ sum K (λ v. n v *ℤ splits v)
