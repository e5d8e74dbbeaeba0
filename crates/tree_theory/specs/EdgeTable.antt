-- A table with room for every edge: an entry for each of K edges, then zeros.
use Rattle.std.specs.Prelude.{◌≡◌, List, ℕ, ◌≤◌, ◌<◌, ℤ, pos, length, get_or}
use Rattle.tree_theory.specs.Limits.{max_edges}

-- of any entries, `zero` among them
pub record EdgeTableOf {A : Type 0} (zero : A) (K : ℕ) (f : ℕ → A) (r : List A) : Type 0 where
  pub size : length r ≡ max_edges
  pub entries : (v : ℕ) → v < K → get_or r v zero ≡ f v
  pub rest : (v : ℕ) → K ≤ v → get_or r v zero ≡ zero

-- of whole numbers
abbrev pub EdgeTable : ℕ → (ℕ → ℤ) → List ℤ → Type 0
EdgeTable K f r = EdgeTableOf (pos 0) K f r
