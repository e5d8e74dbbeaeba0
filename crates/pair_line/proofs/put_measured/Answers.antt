-- Four numbers and the end of a line; the remainder is small enough.
use native.Mathlib.Omega.{arith}
use mir.Facts.{to_z-of_z}
use Rattle.pair_line.proofs.Lining.{scaled_fits, left-fits, measured-written}
use Rattle.pair_line.proofs.put_measured.Goals as goal

pub overflow_mul-values : goal.overflow_mul-values
overflow_mul-values c = let a = c.args in scaled_fits a.d a.far (omega arith) (omega arith) a.p c.requires.p_bound

pub overflow_sub-values : goal.overflow_sub-values
overflow_sub-values c = let a = c.args in left-fits a.d a.far (omega arith) (omega arith) a.p c.requires.p_bound

pub returns : goal.returns
returns c = let a = c.args in measured-written a.d a.far (omega arith) (omega arith) a.p c.requires.p_bound a.q (to_z-of_z c.ranges.q) c.line.ensures
