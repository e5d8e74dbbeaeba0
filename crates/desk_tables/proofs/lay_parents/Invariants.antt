-- A byte a turn.
use mathlib.Core.Path.{◌≡◌}
use Prim.Native.Nat.{◌-◌, ◌≤◌}
use lib.ListN.{length}
use Rattle.desk_tables.proofs.Laying.{Laid}
use Rattle.desk_tables.proofs.lay_parents.Given as goal

abbrev pub invariant-loop-k : goal.invariant-loop-k
invariant-loop-k l = (l.k ≤ length l.numbers) × ((length l.parents ≡ length l.initial.parents) × Laid l.numbers l.initial.parents l.k l.parents)
