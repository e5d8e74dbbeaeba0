-- Two sheets of as many strains have one matrix exactly where their rows agree.
use mathlib.Core.Path.{◌≡◌, sym, ◌∙◌, ap}
use mathlib.Core.List.{List}
use Prim.Native.Nat.{ℕ, ◌<◌}
use Rattle.exact.specs.Table.{table}
use Rattle.matrix.specs.Place.{pair_count, from_rows}
use Rattle.matrix.proofs.Places.{one-matrix-of, rows-of-one}
use Rattle.reading.specs.Holds.{strains_of, row_at, distances_of}

module _ (s t : List ℕ) (e : strains_of s ≡ strains_of t) where
  of-strains : table (pair_count (strains_of s)) (from_rows (strains_of s) (row_at t)) ≡ distances_of t
  of-strains = ap (λ (n : ℕ). table (pair_count n) (from_rows n (row_at t))) e

  pub same-matrix : ((k : ℕ) → k < pair_count (strains_of s) → row_at s k ≡ row_at t k) → distances_of s ≡ distances_of t
  same-matrix h = one-matrix-of (strains_of s) (row_at s) (row_at t) h ∙ of-strains

  pub same_rows : distances_of s ≡ distances_of t → (k : ℕ) → k < pair_count (strains_of s) → row_at s k ≡ row_at t k
  same_rows d = rows-of-one (strains_of s) (row_at s) (row_at t) (d ∙ sym of-strains)
