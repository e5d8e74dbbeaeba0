-- One edge a turn.
use Prim.Native.Nat.{◌-◌}
use lib.IntN.{pos}
use Rattle.exact.specs.Table.{entry_of}
use Rattle.long_levels.proofs.Levelling.{FSoFar}
use Rattle.long_levels.proofs.level_f.Given as goal

abbrev pub invariant-loop-v : goal.invariant-loop-v
invariant-loop-v l = FSoFar l.edges l.squares (entry_of l.splits) (entry_of l.level) (pos l.d) l.v l.f
