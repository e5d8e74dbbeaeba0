-- What the tests passed is what the sums are worked from.
use mathlib.Core.Path.{sym}
use Rattle.fit_theory.proofs.Exactly.{→posted}
use Rattle.corrections.proofs.answer.Goals as goal

pub work-requires : goal.work-requires
work-requires g c = →posted c.args.n c.args.distances.now c.args.parents.now (sym c.in-Ok.ensures)
