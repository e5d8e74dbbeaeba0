-- Paths between strains settle every edge: the tree's incidence has no kernel.
use Rattle.std.specs.Prelude.{◌≡◌, ℕ, ◌<◌, ℤ, pos}
use Rattle.exact.specs.LeastSquares.{path}
use Rattle.tree_theory.specs.Chain.{parts_pair}

-- a table whose paths are all zero is zero
abbrev pub NoKernel : ℕ → ℕ → (ℕ → ℕ) → Type 0
NoKernel N K par = (x : ℕ → ℤ) → ((i j : ℕ) → i < j → j < N → path K (parts_pair par) x (i, j) ≡ pos 0) → (v : ℕ) → v < K → x v ≡ pos 0
