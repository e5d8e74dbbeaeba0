-- The sum is that of the numerators before the edge at hand.
use mathlib.Core.Path.{◌≡◌}
use Prim.Native.Nat.{◌-◌, ◌≤◌}
use Rattle.exact.specs.Sum.{sum}
use Rattle.exact.specs.Table.{entry_of}
use Rattle.fit_numbers.proofs.total.Given as goal

abbrev pub invariant-loop-edge : goal.invariant-loop-edge
invariant-loop-edge l = (l.edge ≤ l.edges) × (l.sum ≡ sum l.edge (entry_of l.numerators))
