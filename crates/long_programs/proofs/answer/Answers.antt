-- Nothing where a read failed; else the bytes that came are the sheet, and each arm is its own print.
use native.Mathlib.Omega.{arith}
use Prim.Native.Nat.{◌≤◌}
use lib.ListN.{length, length-take}
use Rattle.verdict.specs.declared.Rule.TheVariants.{Plain, Drawable}
use Rattle.long_programs.proofs.Answering.{nothing, printed}
use Rattle.long_programs.proofs.answer.Goals as goal

pub returns-in_default : goal.returns-in_default
returns-in_default c = nothing _ _ _ _ _ c.in_default.is

pub slice_bounds-sheet-end : goal.slice_bounds-sheet-end
slice_bounds-sheet-end c = let few : c.in-Ok.count ≤ length c.args.space.now = rw c.in-Ok.is at c.requires in
    simp length-take (omega (arith, few))

pub returns-in-Plain : goal.returns-in-Plain
returns-in-Plain c = printed _ Plain _ _ _ _ _ _ c.in-Ok.is c.in-Plain.is c.long_print.ensures

pub returns-in-Drawable : goal.returns-in-Drawable
returns-in-Drawable c = printed _ Drawable _ _ _ _ _ _ c.in-Ok.is c.in-Drawable.is c.long_print0.ensures
