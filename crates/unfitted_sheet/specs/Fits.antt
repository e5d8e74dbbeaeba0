-- The direct fit of a sheet without lengths: the answer to its bytes, and the fit of what its two records hold, with the lengths in three
-- tables.
use Rattle.std.specs.Prelude.{◌≡◌, List, ℕ, ◌≤◌, Result, IfOk, length}
use Rattle.exact.specs.Table.{table}
use Rattle.verdict.specs.Answer.{Answer, answer_of, test, ◌or_else◌}
use Rattle.verdict.specs.declared.Refusal.{Refusal}
use Rattle.matrix.specs.Tests.{matrix_tests}
use Rattle.tree_theory.specs.Limits.{max_edges}
use Rattle.tree_theory.specs.EdgeTable.{EdgeTableOf, EdgeTable}
use Rattle.fit_theory.specs.Tests.{shape_tests}
use Rattle.direct_theory.specs.Tests.{direct_only}
use Rattle.direct_theory.specs.Lengths.{top_of, bottom_of, thousandth_of}
use Rattle.direct_fit.specs.Answers.{Resolves}
use Rattle.records.specs.Form.{form_tests}
use Rattle.reading.specs.Holds.{strains_of, distances_of, parents_of}
use Rattle.reading.specs.Tests.{strains_differ}
use Rattle.unfitted_sheet.specs.declared.UnfittedFit.{UnfittedFit}

-- the whole answer to a sheet without lengths: its form, the matrix, whether the tree is for as many strains, both by their shapes, whether
-- the tree is resolved and the matrix complete; 1 to 10, 16, 25, 26
abbrev pub unfitted_tests : List ℕ → Answer
unfitted_tests s =
    form_tests 2 s
    or_else matrix_tests (strains_of s) (distances_of s)
    or_else test 8 (strains_differ s)
    or_else shape_tests (strains_of s) (distances_of s) (parents_of s)
    or_else direct_only (strains_of s) (distances_of s) (parents_of s)

-- an accepted sheet: its fit, and the three tables
pub record Fitted (s : List ℕ) (r : UnfittedFit) : Type 0 where
  pub strains : r.strains ≡ strains_of s
  pub edges : r.edges ≡ length (parents_of s)
  pub few : length (parents_of s) ≤ max_edges
  pub resolves : Resolves (strains_of s) (distances_of s) (parents_of s) (table (length (parents_of s)) (top_of (strains_of s) (distances_of s) (parents_of s))) (table (length (parents_of s)) (bottom_of (strains_of s) (distances_of s) (parents_of s))) (table (length (parents_of s)) (thousandth_of (strains_of s) (distances_of s) (parents_of s))) r.fit
  pub tops : EdgeTable (length (parents_of s)) (top_of (strains_of s) (distances_of s) (parents_of s)) r.tops
  pub bottoms : EdgeTableOf 0 (length (parents_of s)) (bottom_of (strains_of s) (distances_of s) (parents_of s)) r.bottoms
  pub rounded : EdgeTable (length (parents_of s)) (thousandth_of (strains_of s) (distances_of s) (parents_of s)) r.rounded

-- the whole answer
pub record UnfittedAnswer (s : List ℕ) (r : Result UnfittedFit Refusal) : Type 0 where
  pub answer : answer_of r ≡ unfitted_tests s
  pub fitted : IfOk r (λ x. Fitted s x)
