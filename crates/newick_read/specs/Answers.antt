-- What `survey`, `read` and `newick_read` hand back, for every names record and every text beside it (RULES, Trees in text).
use Rattle.std.specs.Prelude.{◌≡◌, List, ℕ, ℤ, length, Result, IfOk}
use Rattle.verdict.specs.declared.Refusal.{Refusal}
use Rattle.verdict.specs.Answer.{Answer, pass, number, answer_of, test, ◌or_else◌}
use Rattle.names.specs.Record.{record_count}
use Rattle.newick_text.specs.Tree.{Row, Text}
use Rattle.newick_text.specs.Tests.{edges_in, parents_in, numerators_in, row_tests, room_out}
use Rattle.newick_survey.specs.Text.{find_in, Answered}
use Rattle.newick_read.specs.declared.Sizes.{Sizes}

-- ---- how many strains and edges there are
pub record SizesAnswer (names text : List ℕ) (v : Result Sizes Refusal) : Type 0 where
  pub answer : Answered names text (row_tests (find_in names) (record_count names)) (answer_of v)
  pub held : IfOk v (λ x. (r : Row) → Text text r → (x.strains ≡ record_count names) × (x.edges ≡ edges_in (find_in names) (record_count names) r))

-- ---- the tables, in buffers that had p and x and have q and y
-- the tests of a row, with 15 for room for other than its edges
abbrev pub read_tests : List ℕ → List ℕ → List ℤ → Row → Answer
read_tests names p x r = row_tests (find_in names) (record_count names) r or_else test 15 (room_out (find_in names) (record_count names) r (length p) (length x))

-- the answer, and the tables of the row or what was there before
pub record Reads (names text p q : List ℕ) (x y : List ℤ) (a : Answer) : Type 0 where
  pub answer : Answered names text (read_tests names p x) a
  pub filled : a ≡ pass → (r : Row) → Text text r → (q ≡ parents_in (find_in names) (record_count names) r) × (y ≡ numerators_in (find_in names) (record_count names) r)
  pub kept : (a ≡ pass → ⊥) → (q ≡ p) × (y ≡ x)

-- the same with the number
pub record NumberAnswer (names text p q : List ℕ) (x y : List ℤ) (n : ℕ) : Type 0 where
  pub answer : Answer
  pub reads : Reads names text p q x y answer
  pub number_is : n ≡ number answer
