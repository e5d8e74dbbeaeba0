-- The trees that are allowed (RULES, The tree): N strains, V = K + 1 vertices, K edges, the root K.
use Rattle.std.specs.Prelude.{ℕ, ◌+◌, ◌-◌, ◌*◌, ◌≤◌, ◌<◌}
use Rattle.verdict.specs.Table.{count}
use Rattle.matrix.specs.Limits.{min_strains, max_strains}
use Rattle.tree_theory.specs.Chain.{kid}

-- how many children vertex w has
abbrev pub children : ℕ → (ℕ → ℕ) → ℕ → ℕ
children K par w = count K (kid par w)

pub record Allowed (N K : ℕ) (par : ℕ → ℕ) : Type 0 where
  -- N is 3 to 64
  pub three : min_strains ≤ N
  pub few : N ≤ max_strains
  -- V is N + 1 to 2N - 2
  pub edges : N + 1 ≤ K + 1
  pub most : K + 1 ≤ 2 * N - 2
  -- a parent is greater than its child, at least N, at most V - 1
  pub up : (v : ℕ) → v < K → v < par v
  pub inner : (v : ℕ) → v < K → N ≤ par v
  pub top : (v : ℕ) → v < K → par v ≤ K
  -- the root has at least three children, every other inner vertex at least two
  pub root : 3 ≤ children K par K
  pub two : (w : ℕ) → N ≤ w → w < K → 2 ≤ children K par w
