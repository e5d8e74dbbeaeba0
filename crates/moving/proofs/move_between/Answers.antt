-- The turns of the climb are those of `MovingAt`; what is left to climb gets less at each.
use borrow.Author.Rules.{rules}
use mathlib.Core.Path.{◌≡◌, sym, ◌∙◌, ap, subst}
use mir.Syntax.{w64}
use mir.Val.{to_z, of_z}
use mir.Facts.{to_z-of_z}
use Prim.Native.Nat.{◌+◌, ◌-◌, ◌<◌, ◌^◌}
use native.Mathlib.Omega.{arith}
use lib.IntN.{ℤ, nat_abs, ◌+ℤ◌}
use Rattle.exact.specs.Table.{entry_of}
use Rattle.exact.proofs.Sign.{fits_abs, back, nat_abs_add}
use Rattle.moving.specs.Moved.{Moved, Movable}
use Rattle.moving.proofs.Moving.{move_start, move_end, edge, slot, entry-near, move_turn, nearer, parent_on}
use Rattle.moving.proofs.move_between.Goals as goal
use Rattle.moving.proofs.move_between.Goals.{After-ordered-ends, After-table-1, At-loop-a, Start}

abbrev at : After-ordered-ends → At-loop-a
at c = (goal.at.After-ordered-ends c).At-loop-a

abbrev start : At-loop-a → Start
start l = l.before.before.before

-- what is asked, with the number as the machine holds it
movable : (p : Start) → Movable p.args.edges p.args.parents.now (to_z w64 (of_z w64 p.args.by)) p.args.table.now
movable p = subst (λ (y : ℤ). Movable p.args.edges p.args.parents.now y p.args.table.now) (sym (to_z-of_z p.ranges.by)) p.requires.movable

-- the entry of the lower vertex's edge, and what it is moved to
module _ (c : After-table-1) where
  abbrev o : After-ordered-ends
  o = (goal.at.After-table-1 c).After-ordered-ends

  abbrev here : ℤ
  here = entry_of o.loop-a.table o.ordered-ends.result.low

  small : nat_abs here < 2 ^ 62
  small = entry-near (movable o.before.before.before.before.before) o.loop-a.invariant o.ordered-ends.ensures

  there : to_z w64 (of_z w64 here) ≡ here
  there = back here (omega (arith, small))

  near : nat_abs (to_z w64 (of_z w64 here) +ℤ to_z w64 (of_z w64 o.args.by)) < 2 ^ 63
  near = omega (arith, nat_abs_add (to_z w64 (of_z w64 here)) (to_z w64 (of_z w64 o.args.by)), ap nat_abs there, small, (movable o.before.before.before.before.before).by)

pub loop-a-init : goal.loop-a-init
loop-a-init c = move_start (movable c.before.before) c.requires.i_le_edges.0 c.requires.i_le_edges.1

pub offset_bounds-table-low : goal.offset_bounds-table-low
offset_bounds-table-low c = omega (arith, slot (movable c.before.before.before.before.before) c.loop-a.invariant c.ordered-ends.ensures)

pub bounds-table-low : goal.bounds-table-low
bounds-table-low c = slot (movable c.before.before.before.before.before) c.loop-a.invariant c.ordered-ends.ensures

pub overflow_add-table : goal.overflow_add-table
overflow_add-table c = fits_abs _ (near c)

pub offset_bounds-table-low-in-loop-a : goal.offset_bounds-table-low-in-loop-a
offset_bounds-table-low-in-loop-a c = offset_bounds-table-low (goal.at.offset_bounds-table-low-in-loop-a c).After-ordered-ends

pub bounds-table-low-in-loop-a : goal.bounds-table-low-in-loop-a
bounds-table-low-in-loop-a c = bounds-table-low (goal.at.bounds-table-low-in-loop-a c).After-ordered-ends

pub bounds-parents-low : goal.bounds-parents-low
bounds-parents-low c = omega (arith, edge (movable c.before.before.before.before.before.before.before) c.loop-a.invariant c.ordered-ends.ensures, c.requires.movable.room)

pub overflow_cast-a : goal.overflow_cast-a
overflow_cast-a c = omega (arith, parent_on (movable c.before.before.before.before.before.before.before) c.loop-a.invariant c.ordered-ends.ensures)

pub loop-a-smaller : goal.loop-a-smaller
loop-a-smaller c = nearer (movable c.before.before.before.before.before.before.before) c.loop-a.invariant c.ordered-ends.ensures

pub loop-a-preserved : goal.loop-a-preserved
loop-a-preserved c = move_turn (movable c.before.before.before.before.before.before.before) c.loop-a.invariant c.ordered-ends.ensures _
    (back _ (near (goal.at.loop-a-preserved c).After-table-1) ∙ ap (λ (y : ℤ). y +ℤ to_z w64 (of_z w64 c.args.by)) (there (goal.at.loop-a-preserved c).After-table-1))

pub returns : goal.returns
returns c = subst (λ (y : ℤ). Moved c.args.edges c.args.parents.now c.args.i c.args.j y c.args.table.now c.loop-a.table) (to_z-of_z c.ranges.by)
    (move_end (movable c.before.before.before.before) (search rules) c.loop-a.invariant)
