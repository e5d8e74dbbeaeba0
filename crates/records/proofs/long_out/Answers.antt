-- A short body is out; otherwise L and K say how long it is, and their product fits.
use native.Mathlib.Omega.{arith}
use Rattle.records.proofs.Counts.{product_small, long-short, long-by}
use Rattle.records.proofs.long_out.Goals as goal

pub returns-then-size-lt4 : goal.returns-then-size-lt4
returns-then-size-lt4 c = long-short _ _ _ c.u32_at-size.ensures c.if-size-lt4.true

pub overflow_mul-result : goal.overflow_mul-result
overflow_mul-result c = record { fits = omega (arith, product_small c.u16_at-levels.result c.u16_at-edges.result (omega arith) (omega arith)) }

pub overflow_mul-result-2 : goal.overflow_mul-result-2
overflow_mul-result-2 c = record { fits = omega (arith, product_small c.u16_at-levels.result c.u16_at-edges.result (omega arith) (omega arith)) }

pub overflow_add-result-2 : goal.overflow_add-result-2
overflow_add-result-2 c = record { fits = omega (arith, product_small c.u16_at-levels.result c.u16_at-edges.result (omega arith) (omega arith)) }

pub returns : goal.returns
returns c = long-by _ _ _ _ _ c.u32_at-size.ensures c.u16_at-levels.ensures c.u16_at-edges.ensures c.if-size-lt4.false
