-- A product a turn.
use Rattle.std.proofs.Common.{◌-◌, ◌≤◌, pos, ◌+ℤ◌}
use Rattle.exact.specs.Modulo.{Modulo}
use Rattle.edge_numbers.proofs.Weights.{weighted_to}
use Rattle.edge_numbers.proofs.weighted.Given as goal

abbrev pub invariant-loop-v : goal.invariant-loop-v
invariant-loop-v l = (l.v ≤ l.edges) × Modulo l.held (pos l.acc +ℤ weighted_to l.x l.y l.v)
