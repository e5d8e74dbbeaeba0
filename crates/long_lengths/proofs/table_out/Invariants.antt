-- So many levels fit, and the next does not.
use mathlib.Core.Path.{◌≡◌}
use Prim.Native.Nat.{◌*◌, ◌≤◌}
use Rattle.long_lengths.proofs.table_out.Given as goal

abbrev pub invariant-loop-k : goal.invariant-loop-k
invariant-loop-k l = (l.k ≤ l.levels) × (l.at ≡ l.k * l.edges) × (l.at ≤ l.size)
