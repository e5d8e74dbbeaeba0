-- Each contract leaves one answer: two that meet it on the same input are equal.
use mathlib.Core.Path.{◌≡◌, sym, ◌∙◌, ap, ap₂}
use mathlib.Core.List.{List}
use Prim.Native.Nat.{ℕ}
use lib.IntN.{ℤ}
use Rattle.std.specs.Prelude.{Result}
use Rattle.verdict.proofs.Answers.{one_result}
use Rattle.lengths.specs.declared.Lengths.{Lengths}
use Rattle.verdict.specs.declared.Refusal.{Refusal}
use Rattle.lengths.specs.Tests.{lengths_tests}
use Rattle.lengths.specs.Kept.{Kept, LengthsAnswer}

-- equal parts, equal wholes
same-lengths : (a b : Lengths) → a.denominator ≡ b.denominator → a.edges ≡ b.edges → a.numerators ≡ b.numerators → a ≡ b
same-lengths a b e f g =
    ap₂ (λ (d k : ℕ). whole d k a.numerators) e f ∙ ap (λ (l : List ℤ). whole b.denominator b.edges l) g
  where
    whole : ℕ → ℕ → List ℤ → Lengths
    whole d k l = record { denominator = d; edges = k; numerators = l }

same_kept : (D : ℕ) (ns : List ℤ) (a b : Lengths) → Kept D ns a → Kept D ns b → a ≡ b
same_kept D ns a b p q = same-lengths a b (p.denominator ∙ sym q.denominator) (p.edges ∙ sym q.edges) (p.numerators ∙ sym q.numerators)

pub one-lengths : (edges D : ℕ) (ns : List ℤ) (r s : Result Lengths Refusal) → LengthsAnswer edges D ns r → LengthsAnswer edges D ns s → r ≡ s
one-lengths edges D ns r s p q = one_result (Kept D ns) (Kept D ns) (same_kept D ns) r s (p.answer ∙ sym q.answer) p.kept q.kept
