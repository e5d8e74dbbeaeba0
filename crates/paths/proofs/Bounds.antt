-- How far from 0 a path can be. The idea: it is a sum over the edges, each entry taken once or not at all.
use mathlib.Core.List.{List}
use Prim.Native.Nat.{ℕ, ◌*◌, ◌≤◌}
use native.Mathlib.Omega.{arith}
use lib.IntN.{ℤ, nat_abs}
use Rattle.exact.specs.LeastSquares.{path}
use Rattle.exact.specs.Table.{entry_of}
use Rattle.exact.proofs.Sweep.{chosen-sum_abs}
use Rattle.tree_theory.specs.Limits.{max_edges}
use Rattle.tree_theory.specs.Chain.{parts_pair}
use Rattle.paths.specs.Standing.{max_thousandths, Standing, Small}

-- how far a path over thousandths goes at most: every edge, each as long as can be
abbrev pub farthest_path : ℕ
farthest_path = max_edges * max_thousandths

pub few-edges : {N K : ℕ} {ps cs : List ℕ} → Standing N K ps cs → K ≤ max_edges
few-edges S = omega (arith, S.allowed.few, S.allowed.most)

pub path-near : {K : ℕ} {x : List ℤ} → Small K x → K ≤ max_edges → (par : ℕ → ℕ) (p : ℕ × ℕ) → nat_abs (path K (parts_pair par) (entry_of x) p) ≤ farthest_path
unfolding path
path-near {K} {x} s k par p = omega (arith, chosen-sum_abs K max_thousandths (λ v. parts_pair par v p) (entry_of x) s.near)
