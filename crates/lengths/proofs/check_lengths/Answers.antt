-- `check_lengths`: each test's outcome is what its number asks (`is-11` and those behind it).
use native.Mathlib.Omega.{arith}
use Rattle.lengths.proofs.Answered.{is-11, is-11-many, is-12-high, is-13, is-0}
use Rattle.lengths.proofs.check_lengths.Goals as goal

pub returns-then-numerators-edges : goal.returns-then-numerators-edges
returns-then-numerators-edges c = is-11 _ c.args.d c.args.numerators.now c.if-numerators-edges.true

pub returns-then-edges-gt-MAX_EDGES : goal.returns-then-edges-gt-MAX_EDGES
returns-then-edges-gt-MAX_EDGES c = is-11-many _ c.args.d c.args.numerators.now c.if-numerators-edges.false c.if-edges-gt-MAX_EDGES.true

pub returns-then-d-gt-MAX_DENOMINATOR : goal.returns-then-d-gt-MAX_DENOMINATOR
returns-then-d-gt-MAX_DENOMINATOR c = is-12-high _ _ c.args.numerators.now c.if-numerators-edges.false c.if-edges-gt-MAX_EDGES.false (omega arith) c.if-d-gt-MAX_DENOMINATOR.true

pub returns-then-v-numerators : goal.returns-then-v-numerators
returns-then-v-numerators c = is-13 _ _ c.args.numerators.now c.if-numerators-edges.false c.if-edges-gt-MAX_EDGES.false (omega arith) c.if-d-gt-MAX_DENOMINATOR.false
    c.first_at_fault-v.result c.first_at_fault-v.ensures c.if-v-numerators.true

pub returns : goal.returns
returns c = is-0 _ _ c.args.numerators.now c.if-numerators-edges.false c.if-edges-gt-MAX_EDGES.false (omega arith) c.if-d-gt-MAX_DENOMINATOR.false
    c.first_at_fault-v.result c.first_at_fault-v.ensures c.if-v-numerators.false
