-- `columns`: the loop fills the table from the front, and past n there is nothing to fill.
use mathlib.Core.Path.{◌≡◌}
use mathlib.Core.Bool.{cond}
use mathlib.Core.List.{List}
use Prim.Native.Nat.{ℕ, ◌≤◌, ◌-◌}
use lib.Dec.{ltb}
use lib.ListN.{length}
use Rattle.exact.proofs.Fill.{Filled}
use Rattle.gaps.specs.Columns.{column_of}
use Rattle.gaps.proofs.columns.Given as goal

-- what the table holds at j in the end
abbrev pub whole : ℕ → List ℕ → ℕ → ℕ
whole n ds j = cond (ltb j n) (column_of ds j) 0

abbrev pub invariant-loop-k : goal.invariant-loop-k
invariant-loop-k l = (l.k ≤ l.n) × (length l.masks ≡ 64) × Filled 0 (whole l.n l.distances) (λ _. 0) l.k l.masks
