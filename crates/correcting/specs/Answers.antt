-- What a correction hands back.
use Rattle.std.specs.Prelude.{◌≡◌, List, ℕ, ℤ}
use Rattle.verdict.specs.Answer.{answer_of}
use Rattle.verdict.specs.Answer.{Verdict}
use Rattle.correction_theory.specs.Correction.{Correction, correction_tests, correct}
use Rattle.correction_theory.specs.Kept.{Beside}

-- the answer; the matrix with the new distance, or as it was; and beside it, either way, its split sums and counts
pub record CorrectAnswer (N : ℕ) (ps : List ℕ) (c : Correction) (before after : List ℕ) (sums counts : List ℤ) (r : Verdict) : Type 0 where
  pub answer : answer_of r ≡ correction_tests N before ps c
  pub matrix : after ≡ correct N ps c before
  pub beside : Beside N after ps sums counts
