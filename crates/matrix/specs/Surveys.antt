-- What a look at a matrix finds: the answer to it, and whether some pair is missing.
use Rattle.std.specs.Prelude.{◌≡◌, Bool, List, ℕ, Result, IfOk}
use Rattle.verdict.specs.Answer.{answer_of}
use Rattle.verdict.specs.declared.Refusal.{Refusal}
use Rattle.matrix.specs.Place.{some_missing}
use Rattle.matrix.specs.Tests.{distance_out, matrix_tests}

-- of the distances
pub record Looked (ds : List ℕ) (out gone : Bool) : Type 0 where
  pub out-is : out ≡ distance_out ds
  pub missing-is : gone ≡ some_missing ds

-- of the whole matrix; a refusal says nothing of missing pairs
pub record Surveyed (N : ℕ) (ds : List ℕ) (r : Result Bool Refusal) : Type 0 where
  pub answer : answer_of r ≡ matrix_tests N ds
  pub some-missing : IfOk r (λ gone. gone ≡ some_missing ds)
