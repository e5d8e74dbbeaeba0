-- `add_row`: one strain before j a turn, and j's own row at the end.
use Rattle.std.proofs.Common.{◌-◌, arith}
use Rattle.splits.proofs.Reading.{read_fits}
use Rattle.splits.proofs.Rowing.{row-start, raised-fits, whole-fits, row-turn, last_fits, row-end}
use Rattle.splits.proofs.add_row.Goals as goal

pub loop-i-init : goal.loop-i-init
loop-i-init c = row-start c.args.distances.now c.args.j c.args.own.now c.requires.own_len.0

pub overflow_add-far : goal.overflow_add-far
overflow_add-far c = omega (arith, c.loop-i-test.true, c.requires.j_lt_max_strains)

pub offset_bounds-distances-first : goal.offset_bounds-distances-first
offset_bounds-distances-first c = omega (arith, c.loop-i-test.true, c.requires.j_lt_max_strains)

pub bounds-distances-first : goal.bounds-distances-first
bounds-distances-first c = omega (arith, c.loop-i-test.true, c.requires.j_lt_max_strains)

pub overflow_cast-far : goal.overflow_cast-far
overflow_cast-far c = read_fits c.args.distances.now c.requires.by_index _

pub offset_bounds-own-i : goal.offset_bounds-own-i
offset_bounds-own-i c = omega (arith, c.loop-i-test.true, c.requires.j_lt_max_strains)

pub bounds-own-i : goal.bounds-own-i
bounds-own-i c = omega (arith, c.loop-i-test.true, c.requires.j_lt_max_strains)

pub overflow_add-own : goal.overflow_add-own
overflow_add-own c = raised-fits c.requires.by_index c.requires.j_lt_max_strains.0 c.requires.own_len.1 c.loop-i.invariant c.requires.j_lt_max_strains.1 c.loop-i-test.true

pub offset_bounds-own-i-in-loop-i : goal.offset_bounds-own-i-in-loop-i
offset_bounds-own-i-in-loop-i c = omega (arith, c.loop-i-test.true, c.requires.j_lt_max_strains)

pub bounds-own-i-in-loop-i : goal.bounds-own-i-in-loop-i
bounds-own-i-in-loop-i c = omega (arith, c.loop-i-test.true, c.requires.j_lt_max_strains)

pub overflow_add-whole : goal.overflow_add-whole
overflow_add-whole c = whole-fits c.requires.by_index c.requires.j_lt_max_strains.0 c.requires.own_len.1 c.loop-i.invariant c.requires.j_lt_max_strains.1 c.loop-i-test.true

pub loop-i-preserved : goal.loop-i-preserved
loop-i-preserved c = row-turn c.requires.by_index c.requires.j_lt_max_strains.0 c.requires.own_len.1 c.loop-i.invariant c.requires.j_lt_max_strains.1 c.loop-i-test.true

pub offset_bounds-own-j : goal.offset_bounds-own-j
offset_bounds-own-j c = omega (arith, c.requires.j_lt_max_strains)

pub bounds-own-j : goal.bounds-own-j
bounds-own-j c = omega (arith, c.requires.j_lt_max_strains)

pub overflow_add-own-2 : goal.overflow_add-own-2
overflow_add-own-2 c = last_fits c.requires.by_index c.requires.j_lt_max_strains.0 c.requires.own_len.1 c.loop-i.invariant

pub offset_bounds-own-j-2 : goal.offset_bounds-own-j-2
offset_bounds-own-j-2 c = omega (arith, c.requires.j_lt_max_strains)

pub bounds-own-j-2 : goal.bounds-own-j-2
bounds-own-j-2 c = omega (arith, c.requires.j_lt_max_strains)

pub returns : goal.returns
returns c = row-end c.requires.by_index c.requires.j_lt_max_strains.0 c.requires.own_len.1 c.loop-i.invariant c.loop-i-test.false
