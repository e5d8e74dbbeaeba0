-- A row a turn, until one is not of the form; behind the last nothing may follow.
use mathlib.Core.Path.{refl}
use native.Mathlib.Omega.{arith}
use Rattle.phylip_rows.proofs.Passing.{rows_start, rows-bad, rows-turn, rows_follow, rows_end}
use Rattle.phylip_rows.proofs.rows.Goals as goal

pub loop-i-init : goal.loop-i-init
loop-i-init c = rows_start _ _ _ _ _ c.requires.0

pub returns-in_err-read : goal.returns-in_err-read
returns-in_err-read c = rw c.from_residual.ensures (rows-bad _ _ _ _ _ c.loop-i.invariant (omega arith) c.in_err-read.ensures)

pub loop-i-preserved : goal.loop-i-preserved
loop-i-preserved c = rows-turn _ _ _ _ _ c.loop-i.invariant (omega arith) (omega arith) c.in_ok-read.ensures _ refl

pub returns-then-end-text : goal.returns-then-end-text
returns-then-end-text c = rows_follow _ _ _ _ _ c.loop-i.invariant c.loop-i-test.false c.if-end-text.true

pub returns : goal.returns
returns c = rows_end _ _ _ _ _ c.loop-i.invariant c.loop-i-test.false c.if-end-text.false
