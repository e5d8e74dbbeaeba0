-- A short body is out; otherwise the count of the kind says how long it is.
use native.Mathlib.Omega.{arith}
use Rattle.records.proofs.Counts.{square-small, square_large, short, of-matrix, of_tree, of-lengths}
use Rattle.records.proofs.counts_out.Goals as goal

pub returns-then-size-counts : goal.returns-then-size-counts
returns-then-size-counts c = short _ _ _ (omega arith)

pub overflow_mul-result : goal.overflow_mul-result
overflow_mul-result c = record { fits = omega (arith, square-small c.u16_at-count.result (omega arith)) }

pub overflow_sub-result : goal.overflow_sub-result
overflow_sub-result c = square_large c.u16_at-count.result

pub overflow_add-result : goal.overflow_add-result
overflow_add-result c = record { fits = omega (arith, square-small c.u16_at-count.result (omega arith)) }

pub returns-then-kind-eq1 : goal.returns-then-kind-eq1
returns-then-kind-eq1 c = of-matrix _ _ _ _ c.u32_at-size.ensures _ c.u16_at-count.ensures (omega arith) c.if-kind-eq1.true

pub returns-then-kind-eq2 : goal.returns-then-kind-eq2
returns-then-kind-eq2 c = of_tree _ _ _ _ c.u32_at-size.ensures _ c.u16_at-count.ensures (omega arith) c.if-kind-eq2.true

pub returns : goal.returns
returns c = of-lengths _ _ _ _ c.u32_at-size.ensures _ c.u16_at-count.ensures (omega arith) c.if-kind-eq1.false c.if-kind-eq2.false
