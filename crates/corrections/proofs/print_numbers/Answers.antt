-- The line fits its room.
use native.Mathlib.Omega.{arith}
use Rattle.corrections.proofs.Fitting.{line-fits}
use Rattle.corrections.proofs.print_numbers.Goals as goal

pub put_out-requires : goal.put_out-requires
put_out-requires g c = let a = c.args in let (h, e) = line-fits a.word.now a.values.now (omega arith) (omega arith) (omega arith) c.line-written.ensures in omega arith
