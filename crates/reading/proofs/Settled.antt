-- The reader's contract leaves one sheet: two that meet it on the same bytes are equal.
use mathlib.Core.Path.{◌≡◌, sym, ◌∙◌}
use mathlib.Core.List.{List}
use Prim.Native.Nat.{ℕ}
use lib.IntN.{ℤ}
use Rattle.std.specs.Prelude.{Result}
use Rattle.verdict.specs.declared.Refusal.{Refusal}
use Rattle.verdict.proofs.Answers.{one_result}
use Rattle.reading.specs.declared.Sheet.{Sheet}
use Rattle.reading.specs.Reads.{Held, SheetAnswer}

as_sheet : ℕ → ℕ → List ℕ → ℕ → ℕ → ℕ → ℕ → List ℤ → Sheet
as_sheet n p ds a e d k ns = record { strains = n; pairs = p; distances = ds; parents = a; end = e; denominator = d; edges = k; numerators = ns }

module _ (a b : Sheet) where
  same_parts : a.strains ≡ b.strains → a.pairs ≡ b.pairs → a.distances ≡ b.distances → a.parents ≡ b.parents → a.end ≡ b.end
      → a.denominator ≡ b.denominator → a.edges ≡ b.edges → a.numerators ≡ b.numerators
      → as_sheet a.strains a.pairs a.distances a.parents a.end a.denominator a.edges a.numerators
      ≡ as_sheet b.strains b.pairs b.distances b.parents b.end b.denominator b.edges b.numerators
  same_parts e1 e2 e3 e4 e5 e6 e7 e8 = cc

  -- equal parts, equal wholes
  same-sheet : a.strains ≡ b.strains → a.pairs ≡ b.pairs → a.distances ≡ b.distances → a.parents ≡ b.parents → a.end ≡ b.end
      → a.denominator ≡ b.denominator → a.edges ≡ b.edges → a.numerators ≡ b.numerators → a ≡ b
  unfolding as_sheet
  same-sheet = same_parts

  same-held : (count : ℕ) (s : List ℕ) → Held count s a → Held count s b → a ≡ b
  same-held count s p q =
      same-sheet (p.strains ∙ sym q.strains) (p.pairs ∙ sym q.pairs) (p.distances ∙ sym q.distances) (p.parents ∙ sym q.parents) (p.end ∙ sym q.end)
      (p.denominator ∙ sym q.denominator) (p.edges ∙ sym q.edges) (p.numerators ∙ sym q.numerators)

pub one-sheet : (count : ℕ) (s : List ℕ) (a b : Result Sheet Refusal) → SheetAnswer count s a → SheetAnswer count s b → a ≡ b
one-sheet count s a b p q =
    one_result (Held count s) (Held count s) (λ x y. same-held x y count s) a b (p.answer ∙ sym q.answer) p.held q.held
