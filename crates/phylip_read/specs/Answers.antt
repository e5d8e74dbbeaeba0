-- What `read` and `phylip_read` hand back: for every text the answer, and both buffers.
use Rattle.std.specs.Prelude.{◌≡◌, List, ℕ, length}
use Rattle.verdict.specs.Answer.{pass, number, answer_of}
use Rattle.verdict.specs.Answer.{Verdict}
use Rattle.phylip_text.specs.Tests.{read_tests, Reads}

-- the buffers: the distances and the names of the text, or what was there before
pub record Filled (t db da nb na : List ℕ) : Type 0 where
  pub read : read_tests t (length db) (length nb) ≡ pass → Reads t da na
  pub kept : (read_tests t (length db) (length nb) ≡ pass → ⊥) → (da ≡ db) × (na ≡ nb)

pub record ReadAnswer (t db da nb na : List ℕ) (v : Verdict) : Type 0 where
  pub answer : answer_of v ≡ read_tests t (length db) (length nb)
  pub filled : Filled t db da nb na

-- the same with the number
pub record NumberAnswer (t db da nb na : List ℕ) (r : ℕ) : Type 0 where
  pub number_is : r ≡ number (read_tests t (length db) (length nb))
  pub filled : Filled t db da nb na
