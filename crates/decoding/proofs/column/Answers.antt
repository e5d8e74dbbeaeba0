-- The first distance, then one a turn, each from one row further down.
use Prim.Native.Nat.{◌+◌}
use native.Mathlib.Omega.{arith}
use Rattle.matrix.proofs.Places.{row-place-bound, count_room, pairs-few}
use Rattle.decoding.proofs.Rows.{column-start, column-turn, column-end}
use Rattle.decoding.proofs.column.Goals as goal

pub overflow_mul-row : goal.overflow_mul-row
overflow_mul-row c = let a = c.args in record { fits = omega (arith, c.row_place-row.ensures, row-place-bound a.n 0 a.j (omega arith) (omega arith), pairs-few a.n (omega arith)) }

pub overflow_add-at : goal.overflow_add-at
overflow_add-at c = let a = c.args in record { fits = omega (arith, c.row_place-row.ensures, row-place-bound a.n 0 a.j (omega arith) (omega arith)) }

pub u16_at-requires : goal.u16_at-requires
u16_at-requires c = let a = c.args in omega (arith, c.row_place-row.ensures, row-place-bound a.n 0 a.j (omega arith) (omega arith))

pub offset_bounds-held-first : goal.offset_bounds-held-first
offset_bounds-held-first c = let a = c.args in record { fits = omega (arith, count_room a.n a.j (omega arith), pairs-few a.n (omega arith)) }

pub bounds-held-first : goal.bounds-held-first
bounds-held-first c = let a = c.args in omega (arith, count_room a.n a.j (omega arith), pairs-few a.n (omega arith))

pub loop-i-init : goal.loop-i-init
loop-i-init c = column-start _ _ _ _ (omega arith) (omega arith) (omega arith) _ _ _ (omega arith) c.row_place-row.ensures c.u16_at.ensures c.requires.held_value

pub row_below-row-requires : goal.row_below-row-requires
row_below-row-requires c = (omega arith, omega arith, omega arith, c.loop-i.invariant.row_is)

pub overflow_mul-row-in-loop-i : goal.overflow_mul-row-in-loop-i
overflow_mul-row-in-loop-i c = let a = c.args in let l = c.loop-i in record { fits = omega (arith, c.row_below-row.ensures, row-place-bound a.n (l.i + 1) a.j (omega arith) (omega arith), pairs-few a.n (omega arith)) }

pub overflow_add-at-in-loop-i : goal.overflow_add-at-in-loop-i
overflow_add-at-in-loop-i c = let a = c.args in let l = c.loop-i in record { fits = omega (arith, c.row_below-row.ensures, row-place-bound a.n (l.i + 1) a.j (omega arith) (omega arith)) }

pub u16_at-requires-in-loop-i : goal.u16_at-requires-in-loop-i
u16_at-requires-in-loop-i c = let a = c.args in let l = c.loop-i in omega (arith, c.row_below-row.ensures, row-place-bound a.n (l.i + 1) a.j (omega arith) (omega arith))

pub overflow_add-held : goal.overflow_add-held
overflow_add-held c = let a = c.args in record { fits = omega (arith, count_room a.n a.j (omega arith), pairs-few a.n (omega arith)) }

pub offset_bounds-held-first-in-loop-i : goal.offset_bounds-held-first-in-loop-i
offset_bounds-held-first-in-loop-i c = let a = c.args in record { fits = omega (arith, count_room a.n a.j (omega arith), pairs-few a.n (omega arith)) }

pub bounds-held-first-in-loop-i : goal.bounds-held-first-in-loop-i
bounds-held-first-in-loop-i c = let a = c.args in omega (arith, count_room a.n a.j (omega arith), pairs-few a.n (omega arith))

pub loop-i-preserved : goal.loop-i-preserved
loop-i-preserved c = column-turn _ _ _ _ (omega arith) (omega arith) (omega arith) _ _ _ _ _ (omega arith) c.row_below-row.ensures c.u16_at-in-loop-i.ensures c.loop-i.invariant

pub returns : goal.returns
returns c = column-end _ _ _ _ (omega arith) (omega arith) (omega arith) _ _ _ (omega arith) c.loop-i.invariant
