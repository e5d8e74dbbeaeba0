-- The gap is followed byte by byte; a CR is looked at with the byte behind it.
use mathlib.Core.Path.{◌≡◌, sym, ◌∙◌, ap}
use Prim.Native.Nat.{◌+◌}
use native.Mathlib.Omega.{arith}
use lib.ListN.{length, get_or}
use Rattle.cells.specs.Cell.{in_gap}
use Rattle.cells.proofs.Fronts.{gap_more, gap-stop, gap-done}
use Rattle.cells.proofs.gap_end.Goals as goal
use Rattle.cells.proofs.gap_end.Goals.{After-in_gap}

told : (c : After-in_gap) → in_gap (get_or c.args.text.now c.loop-end.end 0) (get_or c.args.text.now (c.loop-end.end + 1) 0) ≡ c.in_gap.result
told c =
    ap (in_gap (get_or c.args.text.now c.loop-end.end 0)) (sym c.byte_at.ensures) ∙ sym c.in_gap.ensures

pub returns-then-not-in_gap : goal.returns-then-not-in_gap
returns-then-not-in_gap c = gap-stop c.args.text.now c.args.at c.loop-end.end c.loop-end-test.true (told (goal.at.returns-then-not-in_gap c).After-in_gap ∙ c.if-not-in_gap.true) c.loop-end.invariant

pub loop-end-preserved : goal.loop-end-preserved
loop-end-preserved c = gap_more c.args.text.now c.args.at c.loop-end.end c.loop-end-test.true (told (goal.at.loop-end-preserved c).After-in_gap ∙ c.if-not-in_gap.false) c.loop-end.invariant

pub returns : goal.returns
returns c = let e : c.loop-end.end ≡ length c.args.text.now = omega arith in
    rw e at (gap-done c.args.text.now c.args.at c.loop-end.end c.loop-end-test.false c.loop-end.invariant)
