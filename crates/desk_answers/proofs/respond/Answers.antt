-- By what the line means.
use mathlib.Core.Path.{refl, sym}
use lib.Seq.{length-take-le}
use Rattle.desk_text.specs.Meaning.{silent, wrong, shows}
use Rattle.desk_answers.proofs.Telling.{within-posting, within_proposing, told_as, told-wrong, desk-left, nothing_said, steps_respond}
use Rattle.desk_answers.proofs.respond.Goals as goal

pub slice_bounds-post-end : goal.slice_bounds-post-end
slice_bounds-post-end c = sym (length-take-le _ _ (within-posting _ _ _ _ _ c.in-Some.is _ c.in-Posting.is c.requires.within).0)

pub slice_bounds-post-end-in-Posting : goal.slice_bounds-post-end-in-Posting
slice_bounds-post-end-in-Posting c = sym (length-take-le _ _ (within-posting _ _ _ _ _ c.in-Some.is _ c.in-Posting.is c.requires.within).1)

pub slice_bounds-propose-end : goal.slice_bounds-propose-end
slice_bounds-propose-end c = sym (length-take-le _ _ (within_proposing _ _ _ _ _ c.in-Some.is _ c.in-Proposing.is c.requires.within))

pub returns-in-Silent : goal.returns-in-Silent
returns-in-Silent c = told_as c.args.distances.now c.args.parents.now c.args.numerators.now _ _ c.in-Some.is c.args.desk _ _ _ _ c.in-Silent.is (desk-left c.args.desk silent _ _ _ c.requires.held refl (nothing_said _))

pub returns-in_default : goal.returns-in_default
returns-in_default c = told-wrong c.args.distances.now c.args.parents.now c.args.numerators.now _ c.args.desk _ _ _ c.in_default.is (desk-left c.args.desk wrong _ _ _ c.requires.held refl c.put_word.ensures)

pub returns-in-Posting : goal.returns-in-Posting
returns-in-Posting c = told_as c.args.distances.now c.args.parents.now c.args.numerators.now _ _ c.in-Some.is c.args.desk _ _ _ _ c.in-Posting.is (steps_respond c.args.desk _ _ _ _ _ (c.post.ensures c.args.desk c.requires.held) c.answered.ensures)

pub returns-in-Correcting : goal.returns-in-Correcting
returns-in-Correcting c = told_as c.args.distances.now c.args.parents.now c.args.numerators.now _ _ c.in-Some.is c.args.desk _ _ _ _ c.in-Correcting.is (steps_respond c.args.desk _ _ _ _ _ c.correct.ensures c.answered-in-Correcting.ensures)

pub returns-in-Proposing : goal.returns-in-Proposing
returns-in-Proposing c = told_as c.args.distances.now c.args.parents.now c.args.numerators.now _ _ c.in-Some.is c.args.desk _ _ _ _ c.in-Proposing.is (steps_respond c.args.desk _ _ _ _ _ c.propose.ensures c.answered-in-Proposing.ensures)

pub returns-in-Withdrawing : goal.returns-in-Withdrawing
returns-in-Withdrawing c = told_as c.args.distances.now c.args.parents.now c.args.numerators.now _ _ c.in-Some.is c.args.desk _ _ _ _ c.in-Withdrawing.is (steps_respond c.args.desk _ _ _ _ _ c.withdraw.ensures c.answered-in-Withdrawing.ensures)

pub returns-in-Showing : goal.returns-in-Showing
returns-in-Showing c = told_as c.args.distances.now c.args.parents.now c.args.numerators.now _ _ c.in-Some.is c.args.desk _ _ _ _ c.in-Showing.is (desk-left c.args.desk (shows c.in-Showing.show.view c.in-Showing.show.bench) _ _ _ c.requires.held refl c.show_lines.ensures)
