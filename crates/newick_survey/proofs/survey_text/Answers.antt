-- The names and their count first, then the text.
use mathlib.Core.Path.{sym, ◌∙◌}
use Rattle.verdict.proofs.Answers.{test-pass}
use Rattle.newick_survey.proofs.Surveying.{survey_named}
use Rattle.newick_survey.proofs.survey_text.Goals as goal

pub returns : goal.returns
returns c = survey_named c.args.names.now c.args.text.now c.in_ok-n.ensures (sym c.strains_out.ensures ∙ test-pass 6 _ (sym c.in_ok-test.ensures)) c.of_text.result c.of_text.ensures
