-- For a customer that proves something of a long sheet: a sheet whose records can be read gets the answer of what they hold (`readable-long`), one
-- that is accepted stands (`long-sheet-stands`), and one that can be read and stands is accepted (`standing-accepted`).
use mathlib.Core.Path.{◌≡◌, refl, sym, ap, ◌∙◌}
use mathlib.Core.Bool.{Bool, false, not}
use mathlib.Core.List.{List}
use Prim.Native.Nat.{ℕ}
use native.Mathlib.Omega.{arith}
use borrow.Author.Tests.{eq-eqb}
use Rattle.verdict.specs.declared.Rule.{Rule}
use Rattle.verdict.specs.Answer.{Answer, pass, fault, test, ◌or_else◌}
use Rattle.verdict.proofs.Answers.{or_else_pass}
use Rattle.matrix.specs.Tests.{matrix_tests}
use Rattle.tree_theory.specs.Tests.{tree_tests}
use Rattle.fit_theory.specs.Tests.{seen_tests, posted_tests}
use Rattle.front.specs.Holds.{strains_of, distances_of, tree_strains_of, parents_of}
use Rattle.front.specs.Tests.{strains_differ}
use Rattle.front.proofs.Answered.{pair-posted}
use Rattle.long_theory.specs.Long.{LongStands}
use Rattle.long_theory.specs.Tests.{long_tests}
use Rattle.long_theory.proofs.Exactly.{long_stands→, long-proposal-stands}
use Rattle.long_records.specs.LongForm.{long_form_tests}
use Rattle.long_reading.specs.LongHolds.{denominator_digits_of, numerator_digits_of}
use Rattle.long_reading.specs.LongTests.{long_edges_differ, levels_out, long_read_tests}
use Rattle.long_reading.proofs.Parts.{pair-passes}
use Rattle.long_sheet.specs.LongSheets.{long_lengths_of, long_sheet_tests}
use Rattle.long_sheet.proofs.Whole.{by_reader}

-- the matrix may be asked before all the rest
again : (m x y z : Answer) → (m or_else (((m or_else x) or_else y) or_else z)) ≡ (((m or_else x) or_else y) or_else z)
again pass x y z = refl
again (fault k p) x y z = refl

module _ (rule : Rule) (s : List ℕ) where
  abbrev N : ℕ
  N = strains_of s

  pub long-sheet-stands : long_sheet_tests rule s ≡ pass → LongStands rule N (distances_of s) (parents_of s) (denominator_digits_of s) (numerator_digits_of s)
  long-sheet-stands z =
      let (read, lengths) = or_else_pass (long_read_tests s) (long_lengths_of rule s) (sym (by_reader rule s) ∙ z) in
      long-proposal-stands rule N (distances_of s) (parents_of s) (denominator_digits_of s) (numerator_digits_of s) (pair-posted 3 s (omega arith) (pair-passes s read)) lengths

  -- the form stands, the two N agree, K is V - 1 and L is 1 to 52
  module _ (form : long_form_tests s ≡ pass) (same : tree_strains_of s ≡ strains_of s) (edges : long_edges_differ s ≡ false) (levels : levels_out s ≡ false) where
    pub readable-long : long_sheet_tests rule s ≡ long_tests rule N (distances_of s) (parents_of s) (denominator_digits_of s) (numerator_digits_of s)
    readable-long =
        let m = matrix_tests N (distances_of s) in
        let p = posted_tests N (distances_of s) (parents_of s) in
        ap (λ (f : Answer). f or_else m or_else test 8 (strains_differ s) or_else p or_else test 11 (long_edges_differ s) or_else test 12 (levels_out s) or_else long_lengths_of rule s) form
        ∙ ap (λ (b : Bool). m or_else test 8 b or_else p or_else test 11 (long_edges_differ s) or_else test 12 (levels_out s) or_else long_lengths_of rule s) (ap not (eq-eqb (tree_strains_of s) (strains_of s) same))
        ∙ ap (λ (b : Bool). m or_else p or_else test 11 b or_else test 12 (levels_out s) or_else long_lengths_of rule s) edges
        ∙ ap (λ (b : Bool). m or_else p or_else test 12 b or_else long_lengths_of rule s) levels
        ∙ again m (tree_tests N (parents_of s)) (seen_tests N (distances_of s) (parents_of s)) (long_lengths_of rule s)

    pub standing-accepted : LongStands rule N (distances_of s) (parents_of s) (denominator_digits_of s) (numerator_digits_of s) → long_sheet_tests rule s ≡ pass
    standing-accepted h = readable-long ∙ long_stands→ rule N (distances_of s) (parents_of s) (denominator_digits_of s) (numerator_digits_of s) h
