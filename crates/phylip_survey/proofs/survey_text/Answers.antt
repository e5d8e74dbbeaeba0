-- The first line first; then the rows are read, and three tests follow, on what was read.
use mathlib.Core.Path.{sym, ◌∙◌}
use Rattle.verdict.proofs.Answers.{handed_on, test-pass}
use Rattle.phylip_survey.specs.Survey.{Surveyed}
use Rattle.phylip_survey.proofs.Surveys.{halves_told, held_read}
use Rattle.phylip_survey.proofs.survey_text.Goals as goal

pub returns-in_err-test-2 : goal.returns-in_err-test-2
returns-in_err-test-2 c = let w = rw c.in_ok-out.ensures.ok_part at c.rows.ensures in
    handed_on (λ r. Surveyed c.args.text.now c.args.grid.now c.rows.new.grid c.args.names.now c.rows.new.names r) _ _ c.from_residual-in_err-test-2.ensures
    (record {
      answer = c.in_err-test-2.ensures ∙ halves_told _ c.in_ok-head.ensures w (test-pass 18 _ (sym c.in_ok-test.ensures)) _ c.halves_off.ensures;
      grid_size = w.grid_size;
      names-size = w.names-size;
      few = tt;
      held = tt;
    })

pub returns : goal.returns
returns c = let w = rw c.in_ok-out.ensures.ok_part at c.rows.ensures in record {
  answer = c.in_ok-test-2.ensures ∙ halves_told _ c.in_ok-head.ensures w (test-pass 18 _ (sym c.in_ok-test.ensures)) _ c.halves_off.ensures;
  grid_size = w.grid_size;
  names-size = w.names-size;
  few = c.in_ok-head.ensures.opened.few;
  held = held_read _ c.in_ok-head.ensures w;
}
