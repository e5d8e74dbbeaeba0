-- The matrices of RULES, Strains and distances: one distance for each pair, or the mark of a missing one, 3 to 64 strains, each
-- distance at most 50,000.
use Rattle.std.specs.Prelude.{◌≡◌, List, ℕ, ◌≤◌, ◌<◌, length, get_or}
use Rattle.matrix.specs.Limits.{min_strains, max_strains, max_distance}
use Rattle.matrix.specs.Place.{pair_count, known}

pub record Proper (N : ℕ) (ds : List ℕ) : Type 0 where
  pub whole : length ds ≡ pair_count N
  pub three : min_strains ≤ N
  pub few : N ≤ max_strains
  pub near : (k : ℕ) → k < length ds → known (get_or ds k 0) ≤ max_distance
