-- The array is filled from the front; past the numerators it keeps its zeros.
use Prim.Native.Nat.{◌+◌, ◌*◌, ◌-◌}
use Rattle.tree_theory.specs.Limits.{max_edges}
use Rattle.endian.specs.Bytes.{number, twos}
use Rattle.records.proofs.Decoding.{Decoding}
use lib.IntN.{pos}
use Rattle.decoding.proofs.numerators_into.Given as goal

abbrev pub invariant-loop-k : goal.invariant-loop-k
invariant-loop-k l = Decoding (pos 0) max_edges l.count (λ i. twos (number 8 l.s (l.at + 8 * i))) l.k l.held
