-- A sheet whose records can be read, with one N in matrix and tree, gets the answer of what the records hold.
use mathlib.Core.Path.{◌≡◌, sym, ap, ◌∙◌}
use mathlib.Core.Bool.{Bool, not}
use mathlib.Core.List.{List}
use Prim.Native.Nat.{ℕ}
use borrow.Author.Tests.{eq-eqb}
use Rattle.verdict.specs.Answer.{Answer, pass, test, ◌or_else◌}
use Rattle.verdict.specs.declared.Rule.{Rule}
use Rattle.verdict.proofs.Answers.{or_else_assoc, or_else_again}
use Rattle.matrix.specs.Tests.{matrix_tests}
use Rattle.tree_theory.specs.Tests.{tree_tests}
use Rattle.fit_theory.specs.Tests.{seen_tests, proposal_tests, judge_tests}
use Rattle.records.specs.Form.{form_tests}
use Rattle.reading.specs.Holds.{strains_of, distances_of, tree_strains_of, parents_of, denominator_of, numerators_of}
use Rattle.reading.specs.Tests.{held_tests, sheet_tests}

-- the matrix may be asked before all the rest
again : (m x y z : Answer) → (m or_else (((m or_else x) or_else y) or_else z)) ≡ (((m or_else x) or_else y) or_else z)
again m x y z = ap (λ (k : Answer). m or_else k) grouped ∙ or_else_again m (x or_else (y or_else z)) ∙ sym grouped
  where
    grouped : (((m or_else x) or_else y) or_else z) ≡ (m or_else (x or_else (y or_else z)))
    grouped = or_else_assoc (m or_else x) y z ∙ or_else_assoc m x (y or_else z)

pub readable : (rule : Rule) (s : List ℕ) → form_tests 3 s ≡ pass → tree_strains_of s ≡ strains_of s
    → sheet_tests rule s ≡ judge_tests rule (strains_of s) (distances_of s) (parents_of s) (denominator_of s) (numerators_of s)
readable rule s form same =
    let judged = judge_tests rule (strains_of s) (distances_of s) (parents_of s) (denominator_of s) (numerators_of s) in
    ap (λ (z : Answer). z or_else held_tests rule s) form
    ∙ ap (λ (b : Bool). matrix_tests (strains_of s) (distances_of s) or_else test 8 b or_else judged) (ap not (eq-eqb (tree_strains_of s) (strains_of s) same))
    ∙ again (matrix_tests (strains_of s) (distances_of s)) (tree_tests (strains_of s) (parents_of s)) (seen_tests (strains_of s) (distances_of s) (parents_of s))
    (proposal_tests rule (strains_of s) (distances_of s) (parents_of s) (denominator_of s) (numerators_of s))
