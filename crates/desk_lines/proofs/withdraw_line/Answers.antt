-- The bench, or nothing of the form.
use Rattle.desk_theory.specs.Desk.{withdraw}
use Rattle.desk_text.specs.Meaning.{call}
use Rattle.desk_lines.proofs.Lining.{bench-wrong, withdraw-right}
use Rattle.desk_lines.proofs.withdraw_line.Goals as goal

pub returns-in_err-bench : goal.returns-in_err-bench
returns-in_err-bench c = λ ds ps ns. rw c.from_residual.ensures (bench-wrong _ ds ps ns (λ b. call (withdraw b)) c.in_err-bench.ensures)

pub returns : goal.returns
returns c = λ ds ps ns. withdraw-right _ ds ps ns _ c.in_ok-bench.ensures
