-- Nothing where a read failed; else the bytes that came are the sheet, and each arm is its own print.
use native.Mathlib.Omega.{arith}
use Prim.Native.Nat.{◌≤◌}
use lib.ListN.{length, length-take}
use Rattle.programs.specs.declared.Print.TheVariants.{Report, Report0, Resolved}
use Rattle.programs.proofs.Answering.{nothing, printed}
use Rattle.programs.proofs.answer.Goals as goal

pub returns-in_default : goal.returns-in_default
returns-in_default c = nothing _ _ _ _ _ c.in_default.is

pub slice_bounds-sheet-end : goal.slice_bounds-sheet-end
slice_bounds-sheet-end c = let few : c.in-Ok.count ≤ length c.args.space.now = rw c.in-Ok.is at c.requires in
    simp length-take (omega (arith, few))

pub returns-in-Report : goal.returns-in-Report
returns-in-Report c = printed _ Report _ _ _ _ _ _ c.in-Ok.is c.in-Report.is c.sheet_print.ensures

pub returns-in-Report0 : goal.returns-in-Report0
returns-in-Report0 c = printed _ Report0 _ _ _ _ _ _ c.in-Ok.is c.in-Report0.is c.sheet_print0.ensures

pub returns-in-Resolved : goal.returns-in-Resolved
returns-in-Resolved c = printed _ Resolved _ _ _ _ _ _ c.in-Ok.is c.in-Resolved.is c.unfitted_print.ensures
