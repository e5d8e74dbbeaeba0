-- `add_row`: one strain before j a turn, and j's own row at the end.
use Rattle.std.proofs.Common.{◌-◌}
use Rattle.splits.proofs.Rowing.{Rowing}
use Rattle.splits.proofs.add_row.Given as goal

abbrev pub invariant-loop-i : goal.invariant-loop-i
invariant-loop-i l = Rowing l.distances l.j l.initial.own l.i l.whole l.own
