-- The bench, or nothing of the form.
use Rattle.desk_text.specs.Meaning.{shows}
use Rattle.desk_lines.proofs.Lining.{bench-wrong, show_right}
use Rattle.desk_lines.proofs.show_line.Goals as goal

pub returns-in_err-bench : goal.returns-in_err-bench
returns-in_err-bench c = λ ds ps ns. rw c.from_residual.ensures (bench-wrong _ ds ps ns (shows c.args.view) c.in_err-bench.ensures)

pub returns : goal.returns
returns c = λ ds ps ns. show_right _ ds ps ns _ c.in_ok-bench.ensures _
