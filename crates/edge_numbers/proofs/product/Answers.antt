-- By digits of 32 bits.
use Rattle.std.proofs.Common.{arith}
use Rattle.edge_numbers.proofs.Products.{digits-fit, product_is}
use Rattle.edge_numbers.proofs.product.Goals as goal

pub overflow_mul-high : goal.overflow_mul-high
overflow_mul-high c = record { fits = digits-fit _ _ (omega arith) (omega arith) }

pub overflow_mul-low : goal.overflow_mul-low
overflow_mul-low c = record { fits = digits-fit _ _ (omega arith) (omega arith) }

pub overflow_mul-low-2 : goal.overflow_mul-low-2
overflow_mul-low-2 c = record { fits = digits-fit _ _ (omega arith) (omega arith) }

pub returns : goal.returns
returns c = product_is _ _ c.wrapping_add_u64-cross.result _ c.wrapping_add_u64-cross.ensures.value c.wrapping_add_u64.ensures.value
