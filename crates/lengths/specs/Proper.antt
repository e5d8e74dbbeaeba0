-- The proposals of RULES, Lengths: a numerator for each edge, D from 1 to 1,000,000, each numerator in its range.
use Rattle.std.specs.Prelude.{◌≡◌, List, ℕ, ◌≤◌, ◌<◌, ℤ, pos, nat_abs, length, get_or}
use Rattle.tree_theory.specs.Limits.{max_edges}
use Rattle.lengths.specs.Limits.{max_denominator, max_numerator}

pub record Proper (edges D : ℕ) (ns : List ℤ) : Type 0 where
  pub whole : length ns ≡ edges
  pub few : edges ≤ max_edges
  pub one : 1 ≤ D
  pub most : D ≤ max_denominator
  pub near : (v : ℕ) → v < length ns → nat_abs (get_or ns v (pos 0)) ≤ max_numerator
