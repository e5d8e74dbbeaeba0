-- `splits`: one edge a turn, whose strains meet those at its upper end, but for the root.
use Rattle.std.proofs.Common.{◌-◌, arith}
use Rattle.splits.proofs.Passing.{few-edges, pass-start, pass-end, parent_low, met-apart, both-fits, once-fits, twice-fits, pass-root, pass-turn}
use Rattle.splits.proofs.splits.Goals as goal
use Rattle.splits.proofs.splits.Goals.{then-m-edges, else-m-edges}

pub totals-requires : goal.totals-requires
totals-requires c = let p = c.requires.splittable in record {
  n_le_max_strains = (p.allowed.few, p.held);
  by_index = p.near;
  own_value = c.requires.sums_value;
}

pub own_bits-come-requires : goal.own_bits-come-requires
own_bits-come-requires c = c.requires.splittable.allowed.few

pub loop-v-init : goal.loop-v-init
loop-v-init c = pass-start c.requires.splittable _ _ c.totals.ensures c.own_bits-come.ensures

pub offset_bounds-come-v : goal.offset_bounds-come-v
offset_bounds-come-v c = omega (arith, c.loop-v-test.true, few-edges c.requires.splittable)

pub bounds-come-v : goal.bounds-come-v
bounds-come-v c = omega (arith, c.loop-v-test.true, few-edges c.requires.splittable)

pub bounds-parents-v : goal.bounds-parents-v
bounds-parents-v c = omega (arith, c.loop-v-test.true, c.requires.splittable.room)

pub overflow_cast-m : goal.overflow_cast-m
overflow_cast-m c = omega (arith, parent_low c.requires.splittable c.loop-v.invariant c.loop-v-test.true)

pub offset_bounds-come-m : goal.offset_bounds-come-m
offset_bounds-come-m c = omega (arith, parent_low c.requires.splittable c.loop-v.invariant c.loop-v-test.true)

pub bounds-come-m : goal.bounds-come-m
bounds-come-m c = omega (arith, parent_low c.requires.splittable c.loop-v.invariant c.loop-v-test.true)

pub offset_bounds-come-m-in-loop-v : goal.offset_bounds-come-m-in-loop-v
offset_bounds-come-m-in-loop-v c = omega (arith, parent_low c.requires.splittable c.loop-v.invariant c.loop-v-test.true)

pub bounds-come-m-in-loop-v : goal.bounds-come-m-in-loop-v
bounds-come-m-in-loop-v c = omega (arith, parent_low c.requires.splittable c.loop-v.invariant c.loop-v-test.true)

pub crossed-met-requires : goal.crossed-met-requires
crossed-met-requires c = record {
  by_index = met-apart c.requires.splittable c.loop-v.invariant c.loop-v-test.true;
  by_index_2 = c.requires.splittable.near;
}

pub offset_bounds-sums-m : goal.offset_bounds-sums-m
offset_bounds-sums-m c = omega (arith, c.if-m-edges.true, few-edges c.requires.splittable)

pub bounds-sums-m : goal.bounds-sums-m
bounds-sums-m c = omega (arith, c.if-m-edges.true, few-edges c.requires.splittable)

pub offset_bounds-sums-v : goal.offset_bounds-sums-v
offset_bounds-sums-v c = omega (arith, c.loop-v-test.true, few-edges c.requires.splittable)

pub bounds-sums-v : goal.bounds-sums-v
bounds-sums-v c = omega (arith, c.loop-v-test.true, few-edges c.requires.splittable)

pub overflow_add-sums : goal.overflow_add-sums
overflow_add-sums c = both-fits c.requires.splittable c.loop-v.invariant c.loop-v-test.true c.if-m-edges.true c.crossed-met.ensures

pub overflow_sub-sums : goal.overflow_sub-sums
overflow_sub-sums c = once-fits c.requires.splittable c.loop-v.invariant c.loop-v-test.true c.if-m-edges.true c.crossed-met.ensures

pub overflow_sub-sums-then-m-edges : goal.overflow_sub-sums-then-m-edges
overflow_sub-sums-then-m-edges c = twice-fits c.requires.splittable c.loop-v.invariant c.loop-v-test.true c.if-m-edges.true c.crossed-met.ensures

pub offset_bounds-sums-m-then-m-edges : goal.offset_bounds-sums-m-then-m-edges
offset_bounds-sums-m-then-m-edges c = omega (arith, c.if-m-edges.true, few-edges c.requires.splittable)

pub bounds-sums-m-then-m-edges : goal.bounds-sums-m-then-m-edges
bounds-sums-m-then-m-edges c = omega (arith, c.if-m-edges.true, few-edges c.requires.splittable)

pub loop-v-preserved : goal.loop-v-preserved
loop-v-preserved c =
    let turn = c.loop-v-test.true in
    elim c.if-m-edges.branch [
      | then-m-edges w ↦ rw w.sums-is (pass-turn c.requires.splittable c.loop-v.invariant turn w.if-m-edges.true w.crossed-met.ensures)
      | else-m-edges w ↦ rw w.sums-is (pass-root c.requires.splittable c.loop-v.invariant turn w.if-m-edges.false)
    ]

pub returns : goal.returns
returns c = pass-end c.requires.splittable c.loop-v-test.false c.loop-v.invariant
