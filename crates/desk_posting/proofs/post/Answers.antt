-- The tests of a matrix and a tree decide.
use mathlib.Core.Path.{sym, ◌∙◌, ap}
use Rattle.verdict.specs.Answer.{answer_of}
use Rattle.fit_theory.proofs.Exactly.{→posted}
use Rattle.desk_posting.proofs.post.Goals as goal

pub kept-requires : goal.kept-requires
kept-requires c = →posted c.args.n c.args.distances.now c.args.parents.now (sym c.check_posting.ensures ∙ ap answer_of c.in_ok-check_posting.was)
