-- What `Matrix::new` gives: the matrix, where it is accepted.
use Rattle.std.specs.Prelude.{◌≡◌, List, ℕ, Result, IfOk, get_or}
use Rattle.exact.specs.Table.{table}
use Rattle.verdict.specs.Answer.{answer_of}
use Rattle.verdict.specs.declared.Refusal.{Refusal}
use Rattle.matrix.specs.declared.Matrix.{Matrix}
use Rattle.matrix.specs.Limits.{max_pairs}
use Rattle.matrix.specs.Tests.{matrix_tests}

-- a matrix that passed: its distances, followed by zeros
pub record Kept (N : ℕ) (ds : List ℕ) (m : Matrix) : Type 0 where
  pub strains : m.n ≡ N
  pub distances : m.distances ≡ table max_pairs (λ k. get_or ds k 0)

-- the whole answer
pub record MatrixAnswer (N : ℕ) (ds : List ℕ) (r : Result Matrix Refusal) : Type 0 where
  pub answer : answer_of r ≡ matrix_tests N ds
  pub kept : IfOk r (Kept N ds)
