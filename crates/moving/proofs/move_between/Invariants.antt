-- The turns of the climb are those of `MovingAt`; what is left to climb gets less at each.
use Prim.Native.Nat.{◌+◌, ◌-◌}
use Rattle.moving.proofs.Moving.{MovingAt}
use Rattle.moving.proofs.move_between.Given as goal

abbrev pub invariant-loop-a : goal.invariant-loop-a
invariant-loop-a l = MovingAt l.edges l.parents l.i l.j l.by l.initial.table l.a l.b l.table

abbrev pub decreases-loop-a : goal.decreases-loop-a
decreases-loop-a l = (l.edges - l.a) + (l.edges - l.b)
