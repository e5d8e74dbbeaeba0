-- What is kept beside the matrix stays so at every turn: that is what a correction hands back.
use Rattle.correction_theory.specs.Kept.{Beside}
use Rattle.corrections.proofs.correct_all.Given as goal

abbrev pub invariant-loop-correction : goal.invariant-loop-correction
invariant-loop-correction g l = Beside l.n l.distances l.parents l.sums l.counts
