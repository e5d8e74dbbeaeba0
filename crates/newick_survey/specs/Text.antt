-- What a names record and a text beside it show (RULES, Trees in text). Whether a text is of the form is asked of all rows at once, so
-- the answer comes by cases: there is no row, or there is one.
use Rattle.std.specs.Prelude.{◌≡◌, true, cond, List, ℕ, ◌≤◌, ltb, ℤ, pos, take, Result, IfOk}
use Rattle.exact.specs.Table.{table}
use Rattle.verdict.specs.declared.Refusal.{Refusal}
use Rattle.verdict.specs.Answer.{Answer, pass, answer_of, test, ◌or_else◌}
use Rattle.matrix.specs.Tests.{strains_out}
use Rattle.tree_theory.specs.Limits.{max_edges}
use Rattle.tree_theory.specs.Tests.{tree_tests}
use Rattle.lengths.specs.Tests.{lengths_tests}
use Rattle.records.specs.Form.{head_size}
use Rattle.names.specs.Record.{place_of, record_count, names_tests}
use Rattle.newick_text.specs.Tree.{Row, node, Text}
use Rattle.newick_text.specs.Table.{filled}
use Rattle.newick_text.specs.Tests.{thousand, edges_in, parents_in, numerators_in, row_tests}
use Rattle.newick_fill.specs.Fill.{parent_entry, length_entry}
use Rattle.newick_survey.specs.declared.Survey.{Survey}

-- the strain that has a name, by a names record
abbrev pub find_in : List ℕ → List ℕ → ℕ
find_in names = place_of names head_size (record_count names)

-- 2 to 5 and 28 for the names, 6
abbrev pub head_tests : List ℕ → Answer
head_tests names = names_tests names or_else test 6 (strains_out (record_count names))

-- 8, 10, 13 for K entries at the front of tables: no table has room for the edges of a tree that has too many
abbrev pub table_tests : ℕ → ℕ → List ℕ → List ℤ → Answer
table_tests N K p x = cond (ltb max_edges K) (test 8 true) (tree_tests N (take K p) or_else lengths_tests K thousand (take K x))

-- the tables of a row, and how many strains and edges it has
pub record Entered (find : List ℕ → ℕ) (N : ℕ) (r : Row) (t : Survey) : Type 0 where
  pub strains : t.strains ≡ N
  pub edges : t.edges ≡ edges_in find N r
  pub parents : t.parents ≡ filled find parent_entry (node r) N (table max_edges (λ _. 0))
  pub numerators : t.numerators ≡ filled find length_entry (node r) N (table max_edges (λ _. pos 0))

-- a row that passes
pub record Held (find : List ℕ → ℕ) (N : ℕ) (r : Row) (v : Survey) : Type 0 where
  pub strains : v.strains ≡ N
  pub edges : v.edges ≡ edges_in find N r
  pub few : v.edges ≤ max_edges
  pub parents : take v.edges v.parents ≡ parents_in find N r
  pub numerators : take v.edges v.numerators ≡ numerators_in find N r

-- a row: its answer, and its tables where it passes
pub record RowSurvey (find : List ℕ → ℕ) (N : ℕ) (r : Row) (v : Result Survey Refusal) : Type 0 where
  pub answer : answer_of v ≡ row_tests find N r
  pub held : IfOk v (λ x. Held find N r x)

-- a text beside names: 28 for one of no row
pub data TextSurvey (find : List ℕ → ℕ) (N : ℕ) (text : List ℕ) (v : Result Survey Refusal) : Type 0 where
  formless : ((r : Row) → Text text r → ⊥) → answer_of v ≡ test 28 true → TextSurvey find N text v
  formed : (r : Row) → Text text r → RowSurvey find N r v → TextSurvey find N text v

-- the answer to names and a text, where `rows` says what a row of the form is answered: by the names, by the form, or by the row
pub data Answered (names text : List ℕ) (rows : Row → Answer) (a : Answer) : Type 0 where
  by_names : (head_tests names ≡ pass → ⊥) → a ≡ head_tests names → Answered names text rows a
  by_form : head_tests names ≡ pass → ((r : Row) → Text text r → ⊥) → a ≡ test 28 true → Answered names text rows a
  by_row : head_tests names ≡ pass → (r : Row) → Text text r → a ≡ rows r → Answered names text rows a

pub record Surveyed (names text : List ℕ) (v : Result Survey Refusal) : Type 0 where
  pub answer : Answered names text (row_tests (find_in names) (record_count names)) (answer_of v)
  pub held : IfOk v (λ x. (r : Row) → Text text r → Held (find_in names) (record_count names) r x)
