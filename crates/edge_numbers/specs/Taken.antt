-- What the pairs of each edge take off.
use Rattle.std.specs.Prelude.{ℕ, List, ℤ, negsuc, ◌*ℤ◌}
use Rattle.tree_theory.specs.EdgeTable.{EdgeTable}
use Rattle.splits.specs.Sums.{split_of}

-- each edge has its split sum below zero
abbrev pub TakenOff : (N K : ℕ) → List ℕ → (ℕ → ℕ) → List ℤ → Type 0
TakenOff N K ds par r = EdgeTable K (λ v. negsuc 0 *ℤ split_of N ds par v) r
