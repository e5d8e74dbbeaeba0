-- One digit a turn.
use Prim.Native.Nat.{◌-◌}
use lib.ListN.{get_or}
use Rattle.long_writing.proofs.Growing.{Sixing}
use Rattle.long_writing.proofs.put_sixes.Given as goal

abbrev pub invariant-loop-k : goal.invariant-loop-k
invariant-loop-k l = Sixing l.from l.levels (λ i. get_or l.digits i 0) l.initial.text l.text l.at l.k l.next
