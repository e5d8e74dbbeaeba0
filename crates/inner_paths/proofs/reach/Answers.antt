-- The row grows from the root's place on.
use Prim.Native.Nat.{◌-◌}
use native.Mathlib.Omega.{arith}
use Rattle.inner_paths.proofs.Reaching.{few, above-less, own-few, reach-start, slot, step_fits, step_is, reach-turn, reach-end}
use Rattle.inner_paths.proofs.reach.Goals as goal

pub overflow_cast-above : goal.overflow_cast-above
overflow_cast-above c = omega (arith, c.requires.lengthened.allowed.top c.args.a c.requires.n_le_a.1, few c.requires.lengthened)

pub overflow_sub-above : goal.overflow_sub-above
overflow_sub-above c = c.requires.lengthened.allowed.top c.args.a c.requires.n_le_a.1

pub loop-b-init : goal.loop-b-init
loop-b-init c = let a = c.args in reach-start c.requires.lengthened a.a c.requires.n_le_a.0 c.requires.n_le_a.1 _ c.requires.between

pub apart-requires : goal.apart-requires
apart-requires c = let a = c.args in let l = c.loop-b in (l.invariant.before.size, omega (arith, above-less c.requires.lengthened a.a c.requires.n_le_a.0 c.requires.n_le_a.1, own-few c.requires.lengthened a.a c.requires.n_le_a.0 c.requires.n_le_a.1), omega (arith, own-few c.requires.lengthened a.a c.requires.n_le_a.0 c.requires.n_le_a.1))

pub overflow_add-far : goal.overflow_add-far
overflow_add-far c = let a = c.args in let l = c.loop-b in step_fits c.requires.lengthened a.a c.requires.n_le_a.0 c.requires.n_le_a.1 l.between l.b l.invariant c.loop-b-test.true c.apart.result c.apart.ensures

pub place-requires : goal.place-requires
place-requires c = let a = c.args in let l = c.loop-b in (c.loop-b-test.true, omega (arith, own-few c.requires.lengthened a.a c.requires.n_le_a.0 c.requires.n_le_a.1))

pub offset_bounds-between-place : goal.offset_bounds-between-place
offset_bounds-between-place c = let a = c.args in let l = c.loop-b in record { fits = omega (arith, c.place.ensures, slot c.requires.lengthened a.a c.requires.n_le_a.0 c.requires.n_le_a.1 l.between l.b l.invariant c.loop-b-test.true, l.invariant.before.size) }

pub bounds-between-place : goal.bounds-between-place
bounds-between-place c = let a = c.args in let l = c.loop-b in omega (arith, c.place.ensures, slot c.requires.lengthened a.a c.requires.n_le_a.0 c.requires.n_le_a.1 l.between l.b l.invariant c.loop-b-test.true, l.invariant.before.size)

pub loop-b-preserved : goal.loop-b-preserved
loop-b-preserved c = let a = c.args in let l = c.loop-b in reach-turn c.requires.lengthened a.a c.requires.n_le_a.0 c.requires.n_le_a.1 l.between l.b l.invariant c.loop-b-test.true c.place.result c.place.ensures _ (step_is c.requires.lengthened a.a c.requires.n_le_a.0 c.requires.n_le_a.1 l.between l.b l.invariant c.loop-b-test.true c.apart.result c.apart.ensures)

pub returns : goal.returns
returns c = let a = c.args in let l = c.loop-b in reach-end c.requires.lengthened a.a c.requires.n_le_a.0 c.requires.n_le_a.1 l.between l.b l.invariant c.loop-b-test.false
