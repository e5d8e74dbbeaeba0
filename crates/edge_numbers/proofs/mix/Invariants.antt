-- An entry a turn.
use Rattle.std.proofs.Common.{◌-◌}
use Rattle.edge_numbers.proofs.Mixing.{Mixing}
use Rattle.edge_numbers.proofs.mix.Given as goal

abbrev pub invariant-loop-v : goal.invariant-loop-v
invariant-loop-v l = Mixing l.edges l.a l.b l.initial.sums l.paths l.v l.sums
