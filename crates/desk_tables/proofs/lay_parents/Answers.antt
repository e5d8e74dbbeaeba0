-- A byte a turn.
use mathlib.Core.Path.{refl, ◌∙◌}
use Prim.Native.Nat.{◌-◌}
use native.Mathlib.Omega.{arith}
use lib.ListN.{length-set}
use Rattle.exact.proofs.Fill.{fill_none, fill_more}
use Rattle.desk_tables.proofs.Laying.{front-laid}
use Rattle.desk_tables.proofs.lay_parents.Goals as goal

pub loop-k-init : goal.loop-k-init
loop-k-init c = (omega arith, (refl, fill_none 0 _ _ _ (λ m. refl)))

pub overflow_cast-parents : goal.overflow_cast-parents
overflow_cast-parents c = record { fits = c.requires.by_index c.loop-k.k }

pub bounds-parents-k : goal.bounds-parents-k
bounds-parents-k c = let l = c.loop-k in omega (arith, l.invariant.1.0)

pub loop-k-preserved : goal.loop-k-preserved
loop-k-preserved c = let l = c.loop-k in (omega arith, (length-set l.parents l.k _ ∙ l.invariant.1.0, fill_more 0 _ _ l.k l.parents _ (omega (arith, l.invariant.1.0)) refl l.invariant.1.1))

pub shape_of-parents : goal.shape_of-parents
shape_of-parents c = c.loop-k.invariant.1.0

pub returns : goal.returns
returns c = let l = c.loop-k in front-laid _ _ _ l.k c.requires.numbers_in_bounds l.invariant.1.0 (omega (arith, l.invariant.0, c.loop-k-test.false)) l.invariant.1.1
