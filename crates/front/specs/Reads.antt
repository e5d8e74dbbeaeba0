-- What the reader of the matrix and the tree hands over: its answer, and, where that passes, what they hold, the distances in a lent
-- table. Of a refused sheet nothing is said of the table.
use Rattle.std.specs.Prelude.{◌≡◌, List, ℕ, Result, IfOk}
use Rattle.exact.specs.Table.{padded}
use Rattle.verdict.specs.Answer.{answer_of}
use Rattle.verdict.specs.declared.Refusal.{Refusal}
use Rattle.matrix.specs.Limits.{max_pairs}
use Rattle.matrix.specs.Place.{pair_count}
use Rattle.records.specs.Form.{start_of}
use Rattle.front.specs.declared.Front.{Front}
use Rattle.front.specs.Holds.{strains_of, distance_at, parents_at}
use Rattle.front.specs.Tests.{pair_tests}

-- N and the distances, then zeros; where the parents start and end among the bytes
pub record FrontHeld (s ds : List ℕ) (r : Front) : Type 0 where
  pub strains : r.strains ≡ strains_of s
  pub pairs : r.pairs ≡ pair_count (strains_of s)
  pub distances : ds ≡ padded 0 max_pairs (pair_count (strains_of s)) (distance_at s)
  pub parents : r.parents ≡ parents_at s
  pub end : r.end ≡ start_of s 2

-- the whole answer, in a sheet of so many records, and what the lent table is left with
pub record FrontAnswer (count : ℕ) (s ds : List ℕ) (r : Result Front Refusal) : Type 0 where
  pub answer : answer_of r ≡ pair_tests count s
  pub held : IfOk r (λ f. FrontHeld s ds f)
