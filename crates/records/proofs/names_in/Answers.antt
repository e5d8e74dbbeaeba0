-- `Walking` is what each turn keeps: a name more, and the next place behind it.
use native.Mathlib.Omega.{arith}
use Rattle.records.proofs.Names.{names-far, walk_start, walk_turn, walk_end}
use Rattle.records.proofs.names_in.Goals as goal

pub loop-at-init : goal.loop-at-init
loop-at-init c = walk_start c.args.s.now c.args.from c.args.to

pub overflow_cast-at : goal.overflow_cast-at
overflow_cast-at c = record { fits = omega (arith, c.shared_slice_known-1.given c.loop-at.at) }

pub overflow_add-at-in-loop-at : goal.overflow_add-at-in-loop-at
overflow_add-at-in-loop-at c = record { fits = omega (arith, c.shared_slice_known-1.given c.loop-at.at, c.well_formed) }

pub overflow_add-count : goal.overflow_add-count
overflow_add-count c = record { fits = omega (arith, c.loop-at.invariant.place, names-far c.args.s.now c.args.from c.loop-at.count) }

pub loop-at-preserved : goal.loop-at-preserved
loop-at-preserved c = walk_turn c.args.s.now c.args.from c.args.to c.loop-at.at c.loop-at.count c.loop-at-test.true c.loop-at.invariant

pub returns : goal.returns
returns c = walk_end c.args.s.now c.args.from c.args.to c.loop-at.at c.loop-at.count c.loop-at-test.false c.loop-at.invariant
