-- Each contract leaves one answer: two that meet it on the same input are equal.
use mathlib.Core.Path.{◌≡◌, sym, ◌∙◌, ap₂}
use mathlib.Core.List.{List}
use Prim.Native.Nat.{ℕ}
use Rattle.std.specs.Prelude.{Result}
use Rattle.verdict.specs.declared.Refusal.{Refusal}
use Rattle.verdict.proofs.Answers.{one_result}
use Rattle.matrix.specs.declared.Matrix.{Matrix}
use Rattle.matrix.specs.Kept.{Kept, MatrixAnswer}

-- equal parts, equal wholes
same-matrix : (a b : Matrix) → a.n ≡ b.n → a.distances ≡ b.distances → a ≡ b
same-matrix a b e f = ap₂ (λ (k : ℕ) (d : List ℕ). as_matrix k d) e f
  where
    as_matrix : ℕ → List ℕ → Matrix
    as_matrix k d = record { n = k; distances = d }

same_kept : (N : ℕ) (ds : List ℕ) (a b : Matrix) → Kept N ds a → Kept N ds b → a ≡ b
same_kept N ds a b p q = same-matrix a b (p.strains ∙ sym q.strains) (p.distances ∙ sym q.distances)

pub one-matrix : (N : ℕ) (ds : List ℕ) (r s : Result Matrix Refusal) → MatrixAnswer N ds r → MatrixAnswer N ds s → r ≡ s
one-matrix N ds r s p q = one_result (Kept N ds) (Kept N ds) (same_kept N ds) r s (p.answer ∙ sym q.answer) p.kept q.kept
