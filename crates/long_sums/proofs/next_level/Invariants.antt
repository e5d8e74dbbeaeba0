-- One edge a turn.
use Prim.Native.Nat.{◌-◌}
use lib.IntN.{pos, ◌+ℤ◌, ◌*ℤ◌}
use Rattle.exact.specs.Table.{entry_of}
use Rattle.long_digits.specs.Digits.{base}
use Rattle.long_digits.specs.Clamp.{clamp, most}
use Rattle.long_sums.proofs.Filling.{Filling}
use Rattle.long_sums.proofs.next_level.Given as goal

abbrev pub invariant-loop-v : goal.invariant-loop-v
invariant-loop-v l = Filling l.edges (λ u. clamp most (pos base *ℤ entry_of l.tops u +ℤ entry_of l.sums u)) l.v l.next
