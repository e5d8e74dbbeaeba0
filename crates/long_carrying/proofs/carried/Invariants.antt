-- One level a turn, then the three digits at the top.
use Rattle.exact.specs.Table.{entry_of}
use Rattle.long_carrying.proofs.Carrying.{Carrying}
use Rattle.long_carrying.proofs.carried.Given as goal

abbrev pub invariant-loop-level : goal.invariant-loop-level
invariant-loop-level l = Carrying l.levels (entry_of l.f) l.level l.carry l.digits
