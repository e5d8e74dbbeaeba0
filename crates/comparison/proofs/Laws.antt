-- For a customer: an accepted sheet is not above the limit (`accepted-short`); two sheets have one matrix exactly where they have the same N and the same distances, so each has its own (`matrix_self`),
-- and of two sheets with one matrix either may stand for the other (`matrix-same`).
use mathlib.Core.Path.{◌≡◌, refl, ◌∙◌, ap, ap₂}
use mathlib.Core.Bool.{Bool, true, ◌&&◌}
use mathlib.Core.List.{List}
use Prim.Native.Nat.{ℕ, ◌≤◌}
use borrow.Author.Tests.{eq-eqb, eqb-true, ltb-false}
use lib.Dec.{eqb, ltb}
use lib.ListN.{length}
use Rattle.verdict.specs.Answer.{pass, test, test_at, ◌or_else◌}
use Rattle.verdict.specs.declared.Place.TheVariants.{Byte}
use Rattle.verdict.specs.declared.Rule.TheVariants.{Plain}
use Rattle.records.specs.Form.{max_sheet, start_of, records_tests}
use Rattle.reading.specs.Holds.{strains_of, distances_of}
use Rattle.reading.specs.Tests.{sheet_tests}
use Rattle.sheet.proofs.Laws.{or_else_pass, test-pass, sheet-form}
use Rattle.digits.specs.Digits.{same}
use Rattle.digits.proofs.Reading.{both_true}
use Rattle.digits.proofs.Comparing.{same_self, same_list_lem}
use Rattle.comparison.specs.Matrices.{same_matrix}

pub accepted-short : (s : List ℕ) → sheet_tests Plain s ≡ pass → length s ≤ max_sheet
accepted-short s z = ltb-false max_sheet (length s) (test-pass 1 (ltb max_sheet (length s))
    (or_else_pass (test 1 (ltb max_sheet (length s))) (records_tests s 3 or_else test_at 5 (Byte (start_of s 3)) (ltb (start_of s 3) (length s))) (sheet-form s Plain z)).0)

-- ---- one matrix
pub matrix_self : (s : List ℕ) → same_matrix s s ≡ true
matrix_self s = ap (λ (b : Bool). b && same (distances_of s) (distances_of s)) (eq-eqb (strains_of s) (strains_of s) refl) ∙ same_self (distances_of s)

module _ (s t : List ℕ) where
  pub one-matrix : same_matrix s t ≡ true → (strains_of s ≡ strains_of t) × (distances_of s ≡ distances_of t)
  one-matrix e = let (h, k) = both_true (eqb (strains_of s) (strains_of t)) (same (distances_of s) (distances_of t)) e in
      (eqb-true (strains_of s) (strains_of t) h, same_list_lem (distances_of s) (distances_of t) k)

  pub matrix-same : (u : List ℕ) → same_matrix s t ≡ true → same_matrix s u ≡ same_matrix t u
  matrix-same u e = let (h, k) = one-matrix e in
      ap₂ (λ (n : ℕ) (ds : List ℕ). eqb n (strains_of u) && same ds (distances_of u)) h k
