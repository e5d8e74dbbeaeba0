-- A posting as it is held, of a matrix and a tree that pass; and after a correction.
use Rattle.std.specs.Prelude.{◌≡◌, List, ℕ, Result, IfOk}
use Rattle.verdict.specs.Answer.{answer_of}
use Rattle.correction_theory.specs.Correction.{correction_tests}
use Rattle.correction_theory.specs.Correction as corrections
use Rattle.desk.specs.declared.Posting.{Posting}
use Rattle.desk.specs.Held.{matrix_of, tree_of, PostingHeld}
use Rattle.verdict.specs.declared.Refusal.{Refusal}

-- the posting p is held, and is N, ds and ps
pub record Keeps (N : ℕ) (ds ps : List ℕ) (p : Posting) : Type 0 where
  pub strains : p.n ≡ N
  pub matrix : matrix_of p ≡ ds
  pub tree : tree_of p ≡ ps
  pub held : PostingHeld p

-- the answer to a correction of the posting p, and the posting after it
pub record Corrects (p : Posting) (i j far : ℕ) (r : Result Posting Refusal) : Type 0 where
  pub answer : answer_of r ≡ correction_tests p.n (matrix_of p) (tree_of p) (record { i = i; j = j; far = far })
  pub keeps : IfOk r (λ q. Keeps p.n (corrections.correct p.n (tree_of p) (record { i = i; j = j; far = far }) (matrix_of p)) (tree_of p) q)
