-- Where the path of a pair turns.
use Rattle.std.specs.Prelude.{◌≡◌, ◌&&◌, ℕ, ◌≤◌}
use Rattle.tree_theory.specs.Chain.{below}

-- the chains of i and j meet at m: what is above m is above both, and the other way round
pub record Meets (K : ℕ) (par : ℕ → ℕ) (i j m : ℕ) : Type 0 where
  pub on : m ≤ K
  pub common : (v : ℕ) → v ≤ K → below par m v ≡ (below par i v && below par j v)
