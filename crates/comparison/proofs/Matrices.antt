-- Two sheets have one matrix exactly where their rows agree.
use mathlib.Core.Path.{◌≡◌, refl, sym, ◌∙◌}
use mathlib.Core.Bool.{Bool, true, false, true≢false}
use mathlib.Core.List.{List}
use Prim.Native.Nat.{ℕ, ◌<◌}
use native.Mathlib.Omega.{arith}
use borrow.Author.Tests.{eq-eqb, ne_eqb}
use Rattle.matrix.specs.Place.{pair_count}
use Rattle.reading.specs.Holds.{strains_of, row_at, distances_of}
use Rattle.sheet.proofs.Laws.{same-matrix, same_rows}
use Rattle.comparison.specs.Matrices.{same_matrix, SameRows}
use Rattle.comparison.proofs.Laws.{one-matrix}
use Rattle.digits.proofs.Comparing.{same_self}

-- ---- one matrix
module _ (s t : List ℕ) where
  pub other-strains : (strains_of t ≡ strains_of s → ⊥) → false ≡ same_matrix s t
  other-strains h = simp (ne_eqb (strains_of s) (strains_of t) (λ e. h (sym e)))

  -- by the rows
  pub by_rows : strains_of t ≡ strains_of s → (n : ℕ) → n ≡ pair_count (strains_of s) → (r : Bool) → SameRows s t n r → r ≡ same_matrix s t
  by_rows e n f r h = go r refl
    where
      go : (b : Bool) → r ≡ b → r ≡ same_matrix s t
      go true g = g ∙ simp (
        eq-eqb (strains_of s) (strains_of t) (sym e),
        sym (same-matrix s t (sym e) (λ k l. h.agree g k (omega arith))),
        same_self (distances_of s),
      )
      go false g = g ∙ other (same_matrix s t) refl
        where
          other : (b : Bool) → same_matrix s t ≡ b → false ≡ same_matrix s t
          other false d = sym d
          other true d = absurd (h.differ g (λ k l. same_rows s t (sym e) (one-matrix s t d).1 k (omega arith)))

  -- ---- what a pass over the rows finds
  module _ (n : ℕ) where
    pub rows_agree : ((k : ℕ) → k < n → row_at s k ≡ row_at t k) → SameRows s t n true
    rows_agree h = record { agree = λ _. h; differ = λ e _. true≢false e }

    pub row_differs : (k : ℕ) → k < n → (row_at s k ≡ row_at t k → ⊥) → SameRows s t n false
    row_differs k l h = record { agree = λ e. absurd (true≢false (sym e)); differ = λ _ all. h (all k l) }
