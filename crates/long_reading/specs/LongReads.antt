-- What the reader of a long sheet hands over: its answer, and, where that passes, what the records hold.
use Rattle.std.specs.Prelude.{◌≡◌, List, ℕ, Result, IfOk}
use Rattle.exact.specs.Table.{padded}
use Rattle.verdict.specs.Answer.{answer_of}
use Rattle.verdict.specs.declared.Refusal.{Refusal}
use Rattle.matrix.specs.Limits.{max_pairs}
use Rattle.matrix.specs.Place.{pair_count}
use Rattle.records.specs.Form.{start_of}
use Rattle.front.specs.Holds.{strains_of, distance_at, parents_at}
use Rattle.long_reading.specs.declared.LongSheet.{LongSheet}
use Rattle.long_reading.specs.LongHolds.{levels_of, long_edges_of, denominator_at, numerators_at}
use Rattle.long_reading.specs.LongTests.{long_read_tests}

-- N and the distances, then zeros; where the parents start and end among the bytes; L, K, and where the digits start
pub record LongHeld (s : List ℕ) (r : LongSheet) : Type 0 where
  pub strains : r.strains ≡ strains_of s
  pub pairs : r.pairs ≡ pair_count (strains_of s)
  pub distances : r.distances ≡ padded 0 max_pairs (pair_count (strains_of s)) (distance_at s)
  pub parents : r.parents ≡ parents_at s
  pub end : r.end ≡ start_of s 2
  pub levels : r.levels ≡ levels_of s
  pub edges : r.edges ≡ long_edges_of s
  pub denominator : r.denominator ≡ denominator_at s
  pub numerators : r.numerators ≡ numerators_at s

-- the whole answer
pub record LongAnswer (s : List ℕ) (r : Result LongSheet Refusal) : Type 0 where
  pub answer : answer_of r ≡ long_read_tests s
  pub held : IfOk r (λ x. LongHeld s x)
