-- The first distance, then one a turn, each from one row further down.
use Prim.Native.Nat.{◌+◌, ◌*◌}
use Rattle.endian.specs.Bytes.{number}
use Rattle.decoding.proofs.Rows.{Column}
use Rattle.decoding.proofs.column.Given as goal

abbrev pub invariant-loop-i : goal.invariant-loop-i
invariant-loop-i l = Column l.n l.j l.first (λ r. number 2 l.s (l.at + 2 * r)) l.i l.row l.held
