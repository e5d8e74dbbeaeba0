-- What the first line of a text shows, and the whole text.
use Rattle.std.specs.Prelude.{◌≡◌, List, ℕ, ◌+◌, ◌*◌, ◌≤◌, ◌<◌, length, get_or, drop, Result, IfOk}
use Rattle.verdict.specs.declared.Refusal.{Refusal}
use Rattle.verdict.specs.Answer.{Answer, answer_of, test, ◌or_else◌}
use Rattle.matrix.specs.Limits.{max_strains}
use Rattle.matrix.specs.Tests.{strains_out}
use Rattle.phylip_text.specs.Form.{count_of, behind_count, end_bad, rows_of, row_text, name_size}
use Rattle.phylip_text.specs.Tests.{countless, entries, text_tests}
use Rattle.phylip_grid.specs.Grid.{grid_at}
use Rattle.phylip_survey.specs.declared.Head.{Head}

-- 17, 6, 17: what the first line is asked
abbrev pub head_tests : List ℕ → Answer
head_tests t = test 17 (countless t) or_else test 6 (strains_out (count_of t)) or_else test 17 (end_bad (behind_count t))

-- of a first line that passes: N, and where the rows begin
pub record Opened (t : List ℕ) (strains rows : ℕ) : Type 0 where
  pub count-is : strains ≡ count_of t
  pub few : strains ≤ max_strains
  pub within : rows ≤ length t
  pub rows_are : drop rows t ≡ rows_of t

pub record HeadRead (t : List ℕ) (r : Result Head Refusal) : Type 0 where
  pub answer : answer_of r ≡ head_tests t
  pub opened : IfOk r (λ h. Opened t h.strains h.rows)

-- of a text that passes: N, each cell, each name
pub record Held (t : List ℕ) (n : ℕ) (grid names : List ℕ) : Type 0 where
  pub count-is : n ≡ count_of t
  pub cells : (i j : ℕ) → i < n → j < n → grid_at grid i j ≡ entries t i j
  pub named : (i k : ℕ) → i < n → k < name_size → get_or names (name_size * i + k) 0 ≡ get_or (row_text n (rows_of t) i) k 0

pub record Surveyed (t grid grid' names names' : List ℕ) (r : Result ℕ Refusal) : Type 0 where
  pub answer : answer_of r ≡ text_tests t
  pub grid_size : length grid' ≡ length grid
  pub names-size : length names' ≡ length names
  pub few : IfOk r (λ n. n ≤ max_strains)
  pub held : IfOk r (λ n. Held t n grid' names')
