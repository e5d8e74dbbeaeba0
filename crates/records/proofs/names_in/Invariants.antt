-- `Walking` is what each turn keeps: a name more, and the next place behind it.
use Prim.Native.Nat.{◌-◌}
use Rattle.records.proofs.Names.{Walking}
use Rattle.records.proofs.names_in.Given as goal

abbrev pub invariant-loop-at : goal.invariant-loop-at
invariant-loop-at l = Walking l.s l.from l.to l.at l.count

abbrev pub decreases-loop-at : goal.decreases-loop-at
decreases-loop-at l = l.to - l.at
