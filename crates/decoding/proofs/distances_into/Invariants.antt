-- A strain's distances a turn; past the last strain's the table keeps its zeros.
use Prim.Native.Nat.{◌+◌, ◌*◌}
use Rattle.endian.specs.Bytes.{number}
use Rattle.decoding.proofs.Rows.{Reading}
use Rattle.decoding.proofs.distances_into.Given as goal

abbrev pub invariant-loop-j : goal.invariant-loop-j
invariant-loop-j l = Reading l.n (λ r. number 2 l.s (l.at + 2 * r)) l.j l.first l.held
