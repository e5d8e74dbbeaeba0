-- A square a turn.
use Rattle.std.proofs.Common.{◌-◌}
use Rattle.exact.specs.Sum.{sum}
use Rattle.edge_numbers.proofs.Weights.{Squaring}
use Rattle.edge_numbers.proofs.squares.Given as goal

abbrev pub invariant-loop-k : goal.invariant-loop-k
invariant-loop-k l = Squaring l.distances l.count l.sum l.k
