-- The first digit that is not zero as it is, then the others.
use Prim.Native.Nat.{◌-◌}
use native.Mathlib.Omega.{arith}
use lib.ListN.{get_or}
use Rattle.writing.proofs.Writing.{wrote_then, wrote-length}
use Rattle.long_writing.proofs.Growing.{all-zero, by_first, first_short}
use Rattle.long_writing.proofs.put_digits.Goals as goal

pub returns-then-first-levels : goal.returns-then-first-levels
returns-then-first-levels c = let d = c.first_digit-first in rw (all-zero c.args.levels (λ i. get_or c.args.digits.now i 0) c.requires.levels_le_max_digits.0 c.requires.by_index d.result d.ensures c.if-first-levels.true) c.put.ensures

pub overflow_cast-digits : goal.overflow_cast-digits
overflow_cast-digits c = record { fits = omega (arith, c.requires.by_index c.first_digit-first.result) }

pub put_sixes-requires : goal.put_sixes-requires
put_sixes-requires c = let d = c.first_digit-first in let w = c.put_number-next in
    record {
      from_le_levels = (omega (arith, c.if-first-levels.false), c.requires.levels_le_max_digits.1, omega (arith, c.requires.levels_le_max_digits.2, c.if-first-levels.false, w.ensures.place, first_short c.args.levels (λ i. get_or c.args.digits.now i 0) c.requires.levels_le_max_digits.0 c.requires.by_index d.result d.ensures, wrote-length (omega (arith, c.requires.levels_le_max_digits.2, first_short c.args.levels (λ i. get_or c.args.digits.now i 0) c.requires.levels_le_max_digits.0 c.requires.by_index d.result d.ensures)) w.ensures));
      by_index = c.requires.by_index;
    }

pub returns : goal.returns
returns c = let d = c.first_digit-first in
    rw (by_first c.args.levels (λ i. get_or c.args.digits.now i 0) c.requires.levels_le_max_digits.0 c.requires.by_index d.result d.ensures c.if-first-levels.false) (wrote_then (omega (arith, c.requires.levels_le_max_digits.2, first_short c.args.levels (λ i. get_or c.args.digits.now i 0) c.requires.levels_le_max_digits.0 c.requires.by_index d.result d.ensures)) c.put_number-next.ensures c.put_sixes.ensures)
