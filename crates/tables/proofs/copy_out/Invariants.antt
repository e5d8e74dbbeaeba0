-- The buffer is filled from the front.
use mathlib.Core.Path.{◌≡◌}
use Prim.Native.Nat.{◌≤◌}
use lib.IntN.{pos}
use lib.ListN.{length}
use Rattle.exact.proofs.Fill.{Filled}
use Rattle.exact.specs.Table.{entry_of}
use Rattle.tables.proofs.copy_out.Given as goal

abbrev pub invariant-loop-v : goal.invariant-loop-v
invariant-loop-v l = (l.v ≤ l.edges) × (length l.to ≡ l.edges) × Filled (pos 0) (entry_of l.from) (entry_of l.initial.to) l.v l.to
