-- One level a turn.
use Prim.Native.Nat.{◌-◌}
use Rattle.exact.specs.Table.{entry_of}
use Rattle.long_numbers.proofs.Numbers.{Signing}
use Rattle.long_numbers.proofs.sign.Given as goal

abbrev pub invariant-loop-k : goal.invariant-loop-k
invariant-loop-k l = Signing l.levels (entry_of l.f) l.k l.whole
