-- Each turn that goes on has one sheet more, and there are fewer than 2^64.
use mathlib.Core.Path.{◌≡◌}
use Rattle.shortest_run.specs.Kept.{Held}
use Rattle.shortest.proofs.main.Given as goal

abbrev pub invariant-loop-sheet : goal.invariant-loop-sheet
invariant-loop-sheet l = Held l.run × (l.run.count ≡ l._sheet)
