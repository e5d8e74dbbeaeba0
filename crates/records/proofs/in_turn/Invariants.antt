-- The records in turn: `Past` is what each turn keeps.
use Prim.Native.Nat.{◌-◌}
use Rattle.records.proofs.InTurn.{Past}
use Rattle.records.proofs.in_turn.Given as goal

abbrev pub invariant-loop-k : goal.invariant-loop-k
invariant-loop-k l = Past l.s l.count l.k l.at l.starts
