-- What is asked of the tables that are lent. They may be longer than the counts say.
use Rattle.std.specs.Prelude.{◌≡◌, List, ℕ, ◌*◌, ◌≤◌, ◌<◌, ℤ, nat_abs, length, get_or}
use Rattle.exact.specs.Table.{entry_of}
use Rattle.lengths.specs.Limits.{max_numerator}
use Rattle.tree_theory.specs.Chain.{parent_of}
use Rattle.tree_theory.specs.Allowed.{Allowed}
use Rattle.tree_theory.specs.Cluster.{cluster}

-- the most thousandths that a length has: a thousand times the largest numerator
abbrev pub max_thousandths : ℕ
max_thousandths = 1000 * max_numerator

-- an allowed tree of N strains and K edges, with the cluster of each vertex
pub record Standing (N K : ℕ) (ps cs : List ℕ) : Type 0 where
  pub room : K ≤ length ps
  pub allowed : Allowed N K (parent_of ps)
  pub masks : (v : ℕ) → v ≤ K → get_or cs v 0 ≡ cluster N (parent_of ps) v

-- an entry for each edge, none farther from 0 than a numerator's thousandths can be
pub record Small (K : ℕ) (x : List ℤ) : Type 0 where
  pub room : K ≤ length x
  pub near : (v : ℕ) → v < K → nat_abs (entry_of x v) ≤ max_thousandths
