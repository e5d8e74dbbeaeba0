-- Every digit so far is 0.
use mathlib.Core.Path.{◌≡◌}
use Prim.Native.Nat.{ℕ, ◌-◌, ◌<◌, ◌≤◌}
use lib.ListN.{get_or}
use Rattle.long_writing.proofs.first_digit.Given as goal

abbrev pub invariant-loop-k : goal.invariant-loop-k
invariant-loop-k l = (l.k ≤ l.levels) × ((i : ℕ) → i < l.k → get_or l.digits i 0 ≡ 0)
