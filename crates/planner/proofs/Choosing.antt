-- The choice between two sheets: each answer by the tests that led to it, from the tree lengths of the two.
use mathlib.Core.Path.{◌≡◌, sym, ◌∙◌, ap, ap₂, subst}
use mathlib.Core.Bool.{Bool, true, false, not}
use mathlib.Core.List.{List}
use Prim.Native.Nat.{ℕ}
use lib.Dec.{T}
use lib.IntN.{ℤ, pos, ◌*ℤ◌}
use lib.Signed.{lt_z, lt_z_yes, lt_z_no}
use Rattle.verdict.specs.Answer.{Answer, pass, refusal_of, test, ◌or_else◌}
use Rattle.verdict.specs.declared.Place.TheVariants.{Nowhere}
use Rattle.verdict.specs.declared.Reason.TheVariants.{Matrices}
use Rattle.verdict.specs.declared.Refusal.{Refusal}
use Rattle.std.specs.Prelude.{Ok, Err}
use Rattle.verdict.specs.declared.Rule.TheVariants.{Plain}
use Rattle.reading.specs.Tests.{sheet_tests}
use Rattle.sheet.proofs.Laws.{or_else_pass}
use Rattle.comparison.specs.Matrices.{same_matrix}
use Rattle.comparison.specs.Measured.{LengthOf}
use Rattle.comparison.specs.declared.TreeLength.{TreeLength}
use Rattle.planner.specs.Compared.{compared_tests, length_beside, Chosen}
use Rattle.planner.specs.declared.Winner.TheVariants.{First, Second}

-- two sheets that are compared are both accepted
pub both-accepted : (s t : List ℕ) → compared_tests s t ≡ pass → (sheet_tests Plain s ≡ pass) × (sheet_tests Plain t ≡ pass)
both-accepted s t z = let (a, b) = or_else_pass (sheet_tests Plain s) (sheet_tests Plain t or_else test 27 (not (same_matrix s t))) z in
    (a, (or_else_pass (sheet_tests Plain t) (test 27 (not (same_matrix s t))) b).0)

module _ (s t : List ℕ) where
  -- what is asked behind the first sheet
  abbrev rest : Answer
  rest = sheet_tests Plain t or_else test 27 (not (same_matrix s t))

  pub first-refused : (r : Refusal) → refusal_of r ≡ sheet_tests Plain s → Chosen s t (Err r)
  first-refused r e = ap (λ (a : Answer). a or_else rest) e

  module _ (e : pass ≡ sheet_tests Plain s) where
    behind-first : rest ≡ compared_tests s t
    behind-first = ap (λ (a : Answer). a or_else rest) e

    pub second-refused : (r : Refusal) → refusal_of r ≡ sheet_tests Plain t → Chosen s t (Err r)
    second-refused r g = ap (λ (a : Answer). a or_else test 27 (not (same_matrix s t))) g ∙ behind-first

    module _ (g : pass ≡ sheet_tests Plain t) where
      behind-second : test 27 (not (same_matrix s t)) ≡ compared_tests s t
      behind-second = ap (λ (a : Answer). a or_else test 27 (not (same_matrix s t))) g ∙ behind-first

      pub other-matrix : false ≡ same_matrix s t → Chosen s t (Err (record { reason = Matrices; place = Nowhere }))
      other-matrix h = ap (λ (b : Bool). test 27 (not b)) h ∙ behind-second

      module _ (x y : TreeLength) (a : LengthOf s x) (b : LengthOf t y) (h : true ≡ same_matrix s t) where
        all_pass : compared_tests s t ≡ pass
        all_pass = sym behind-second ∙ ap (λ (b : Bool). test 27 (not b)) (sym h)

        -- the products of what was measured are those of the sheets
        abbrev second-less : Bool
        second-less = lt_z (y.numerator *ℤ pos x.denominator) (x.numerator *ℤ pos y.denominator)

        by_sheets : second-less ≡ lt_z (length_beside t s) (length_beside s t)
        by_sheets = ap₂ lt_z (ap₂ (λ (l : ℤ) (d : ℕ). l *ℤ pos d) b.total a.over) (ap₂ (λ (l : ℤ) (d : ℕ). l *ℤ pos d) a.total b.over)

        pub second-shorter : true ≡ second-less → Chosen s t (Ok Second)
        second-shorter l = (all_pass, lt_z_yes (subst T (l ∙ by_sheets) tt))

        pub first-shorter : false ≡ second-less → Chosen s t (Ok First)
        first-shorter l = (all_pass, lt_z_no (subst (λ (b : Bool). T (not b)) (l ∙ by_sheets) tt))
