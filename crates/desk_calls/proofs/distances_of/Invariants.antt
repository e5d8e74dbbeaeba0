-- Each distance stands in the bytes that were asked for.
use Prim.Native.Nat.{◌-◌, ◌≤◌}
use mathlib.Core.Path.{◌≡◌, ap, sym, ◌∙◌}
use native.Mathlib.Omega.{arith}
use lib.ListN.{length, length-set}
use Rattle.exact.proofs.Fill.{length-table}
use Rattle.matrix.specs.Limits.{max_pairs}
use Rattle.desk_calls.proofs.distances_of.Given as goal

abbrev pub invariant-loop-k : goal.invariant-loop-k
invariant-loop-k l = (l.k ≤ l.count) × (length l.held ≡ max_pairs)
