-- Either line fits its room.
use mathlib.Core.List.{[]}
use native.Mathlib.Omega.{arith}
use Rattle.corrections.proofs.Fitting.{line-fits, refused-fits}
use Rattle.corrections.proofs.answer_line.Goals as goal

pub returns-in-Err : goal.returns-in-Err
returns-in-Err c = refused-fits _ c.in-Err.refusal.place (omega arith) c.refused_line.ensures

pub returns-in-Ok : goal.returns-in-Ok
returns-in-Ok c = line-fits c.args.word.now [] (omega arith) (omega arith) (omega arith) c.line.ensures
