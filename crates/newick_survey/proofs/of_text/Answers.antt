-- One exit after the other: no row, another count of leaves, a name that is not used, the tables.
use mathlib.Core.Path.{sym, ◌∙◌, subst}
use mathlib.Core.List.{List}
use Prim.Native.Nat.{ℕ, ◌≤◌}
use Rattle.verdict.proofs.Answers.{handed_on}
use Rattle.matrix.specs.Limits.{max_strains}
use Rattle.records.specs.Form.{head_size}
use Rattle.names.specs.Record.{place_of}
use Rattle.newick_form.specs.Form.{Found, TextRead}
use Rattle.newick_survey.specs.Text.{TextSurvey}
use Rattle.newick_survey.proofs.Surveying.{survey_many, survey_unused, judge-refused, survey_judged, strains-few, leaves_all, leaves_out}
use Rattle.newick_survey.proofs.of_text.Goals as goal
use Rattle.newick_survey.proofs.of_text.Goals.{Else-not-is_text}

-- the text is of the form
module _ (c : Else-not-is_text) where
  abbrev find : List ℕ → ℕ
  find = place_of c.args.names.now head_size c.args.n

  form : Found c.args.text.now
  form = subst (TextRead c.args.text.now) c.if-not-is_text.false c.is_text.ensures

  few : c.args.n ≤ max_strains
  few = strains-few c.args.n c.requires.0

pub returns-then-not-count_is : goal.returns-then-not-count_is
returns-then-not-count_is c = let e = (goal.at.returns-then-not-count_is c).Else-not-is_text in
    survey_many (find e) c.args.n c.args.text.now (form e) (leaves_out c.args.n c.requires.0 c.args.text.now (sym c.count_is.ensures ∙ c.if-not-count_is.true))

pub returns-then-unused : goal.returns-then-unused
returns-then-unused c = let e = (goal.at.returns-then-unused c).Else-not-is_text in
    survey_unused (find e) c.args.n c.args.text.now (form e) (few e) c.fill_tables-found.result (c.fill_tables-found.ensures (form e).row (form e).text) (sym c.unused.ensures ∙ c.if-unused.true)

pub returns-in_err-judged : goal.returns-in_err-judged
returns-in_err-judged c = let e = (goal.at.returns-in_err-judged c).Else-not-is_text in
    handed_on (λ r. TextSurvey (find e) c.args.n c.args.text.now r) _ _ c.from_residual.ensures
    (judge-refused (find e) c.args.n c.args.text.now (form e) (few e) c.fill_tables-found.result (c.fill_tables-found.ensures (form e).row (form e).text) c.requires.0
    (leaves_all c.args.n c.requires.0 c.args.text.now (sym c.count_is.ensures ∙ c.if-not-count_is.false)) (sym c.unused.ensures ∙ c.if-unused.false) _ c.in_err-judged.ensures)

pub returns : goal.returns
returns c = let e = (goal.at.returns c).Else-not-is_text in
    survey_judged (find e) c.args.n c.args.text.now (form e) (few e) c.fill_tables-found.result (c.fill_tables-found.ensures (form e).row (form e).text) c.requires.0
    (leaves_all c.args.n c.requires.0 c.args.text.now (sym c.count_is.ensures ∙ c.if-not-count_is.false)) (sym c.unused.ensures ∙ c.if-unused.false) c.in_ok-judged.ensures
