-- Each turn that goes on has one sheet more, and there are fewer than 2^64.
use mathlib.Core.Path.{◌∙◌, ap}
use Prim.Native.Nat.{ℕ, ◌+◌}
use native.Mathlib.Omega.{arith}
use Rattle.shortest.proofs.main.Goals as goal

pub loop-sheet-init : goal.loop-sheet-init
loop-sheet-init c = (record { state = _; keeps = c.start-run.ensures }, c.start-run.ensures.count)

pub next_sheet-requires-clause-held : goal.next_sheet-requires-clause-held
next_sheet-requires-clause-held c = c.loop-sheet.invariant.0

pub next_sheet-requires-clause-count_bound : goal.next_sheet-requires-clause-count_bound
next_sheet-requires-clause-count_bound c = omega (arith, c.loop-sheet.invariant.1, c.loop-sheet-test.true)

pub loop-sheet-preserved : goal.loop-sheet-preserved
loop-sheet-preserved c = let next = c.in-Some.ensures in (next.held, omega (arith, next.more, c.loop-sheet.invariant.1))
