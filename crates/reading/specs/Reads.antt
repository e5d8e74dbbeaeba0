-- What the reader of a sheet hands over: its answer, and, where that passes, what the records hold.
use Rattle.std.specs.Prelude.{◌≡◌, List, ℕ, ℤ, pos, Result, IfOk}
use Rattle.exact.specs.Table.{padded}
use Rattle.verdict.specs.Answer.{answer_of, test}
use Rattle.verdict.specs.declared.Refusal.{Refusal}
use Rattle.matrix.specs.Limits.{max_pairs}
use Rattle.matrix.specs.Place.{pair_count}
use Rattle.tree_theory.specs.Limits.{max_edges}
use Rattle.records.specs.Form.{start_of}
use Rattle.reading.specs.declared.Sheet.{Sheet}
use Rattle.reading.specs.declared.Outline.{Outline}
use Rattle.reading.specs.declared.Proposal.{Proposal}
use Rattle.reading.specs.Holds.{strains_of, distance_at, parents_at, denominator_in, edges_in, numerator_at}
use Rattle.reading.specs.Tests.{edges_differ, read_tests}

-- the lengths of a sheet of so many records, or none where it has two: D, K, and the numerators in a lent table, then zeros
pub record LengthsHeld (count : ℕ) (s : List ℕ) (ns : List ℤ) (p : Proposal) : Type 0 where
  pub denominator : p.denominator ≡ denominator_in count s
  pub edges : p.edges ≡ edges_in count s
  pub numerators : ns ≡ padded (pos 0) max_edges (edges_in count s) (numerator_at s)

pub record Proposed (count : ℕ) (s : List ℕ) (ns : List ℤ) (r : Result Proposal Refusal) : Type 0 where
  pub answer : answer_of r ≡ test 11 (edges_differ count s)
  pub held : IfOk r (λ p. LengthsHeld count s ns p)

-- N and the distances, then zeros; where the parents start and end among the bytes; the lengths
pub record Held (count : ℕ) (s : List ℕ) (r : Sheet) : Type 0 where
  pub strains : r.strains ≡ strains_of s
  pub pairs : r.pairs ≡ pair_count (strains_of s)
  pub distances : r.distances ≡ padded 0 max_pairs (pair_count (strains_of s)) (distance_at s)
  pub parents : r.parents ≡ parents_at s
  pub end : r.end ≡ start_of s 2
  pub denominator : r.denominator ≡ denominator_in count s
  pub edges : r.edges ≡ edges_in count s
  pub numerators : r.numerators ≡ padded (pos 0) max_edges (edges_in count s) (numerator_at s)

-- an outline and the two tables together
abbrev pub together : Outline → List ℕ → List ℤ → Sheet
together r ds ns = record {
  strains = r.strains;
  pairs = r.pairs;
  distances = ds;
  parents = r.parents;
  end = r.end;
  denominator = r.denominator;
  edges = r.edges;
  numerators = ns;
}

-- the whole answer, and what the two lent tables are left with; of a refused sheet nothing is said of these
pub record OutlineAnswer (count : ℕ) (s ds : List ℕ) (ns : List ℤ) (r : Result Outline Refusal) : Type 0 where
  pub answer : answer_of r ≡ read_tests count s
  pub held : IfOk r (λ o. Held count s (together o ds ns))

-- the whole answer, with its tables
pub record SheetAnswer (count : ℕ) (s : List ℕ) (r : Result Sheet Refusal) : Type 0 where
  pub answer : answer_of r ≡ read_tests count s
  pub held : IfOk r (λ x. Held count s x)
