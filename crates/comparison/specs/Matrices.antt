-- RULES, Which of two trees is shorter: when two sheets have one matrix.
use Rattle.std.specs.Prelude.{◌≡◌, Bool, true, false, ◌&&◌, List, ℕ, ◌<◌, eqb}
use Rattle.digits.specs.Digits.{same}
use Rattle.reading.specs.Holds.{strains_of, row_at, distances_of}

-- two sheets have one matrix: the same N, and every pair the same; a missing pair is the same as a missing pair alone
abbrev pub same_matrix : List ℕ → List ℕ → Bool
same_matrix s t = eqb (strains_of s) (strains_of t) && same (distances_of s) (distances_of t)

-- whether the first n distances of the two sheets agree, in the order of the rows
pub record SameRows (s t : List ℕ) (n : ℕ) (r : Bool) : Type 0 where
  pub agree : r ≡ true → (k : ℕ) → k < n → row_at s k ≡ row_at t k
  pub differ : r ≡ false → ((k : ℕ) → k < n → row_at s k ≡ row_at t k) → ⊥
