-- `totals`: one column a turn, the pairs of strain j with the strains before it.
use Rattle.std.proofs.Common.{◌≡◌, ◌-◌, ◌≤◌}
use Rattle.matrix.specs.Place.{pair_count}
use Rattle.splits.specs.Sums.{Rows}
use Rattle.splits.proofs.totals.Given as goal

abbrev pub invariant-loop-j : goal.invariant-loop-j
invariant-loop-j l = (l.j ≤ l.n) × (l.first ≡ pair_count l.j) × Rows l.j l.distances l.own
