-- The reader's contract leaves one sheet: two that meet it on the same bytes are equal.
use mathlib.Core.Path.{◌≡◌, sym, ◌∙◌}
use mathlib.Core.List.{List}
use Prim.Native.Nat.{ℕ}
use Rattle.std.specs.Prelude.{Result}
use Rattle.verdict.specs.declared.Refusal.{Refusal}
use Rattle.verdict.proofs.Answers.{one_result}
use Rattle.long_reading.specs.declared.LongSheet.{LongSheet}
use Rattle.long_reading.specs.LongReads.{LongHeld, LongAnswer}

as_sheet : ℕ → ℕ → List ℕ → ℕ → ℕ → ℕ → ℕ → ℕ → ℕ → LongSheet
as_sheet n p ds a e l k d m = record { strains = n; pairs = p; distances = ds; parents = a; end = e; levels = l; edges = k; denominator = d; numerators = m }

module _ (a b : LongSheet) where
  same_parts : a.strains ≡ b.strains → a.pairs ≡ b.pairs → a.distances ≡ b.distances → a.parents ≡ b.parents → a.end ≡ b.end
      → a.levels ≡ b.levels → a.edges ≡ b.edges → a.denominator ≡ b.denominator → a.numerators ≡ b.numerators
      → as_sheet a.strains a.pairs a.distances a.parents a.end a.levels a.edges a.denominator a.numerators
      ≡ as_sheet b.strains b.pairs b.distances b.parents b.end b.levels b.edges b.denominator b.numerators
  same_parts e1 e2 e3 e4 e5 e6 e7 e8 e9 = cc

  -- equal parts, equal wholes
  same-sheet : a.strains ≡ b.strains → a.pairs ≡ b.pairs → a.distances ≡ b.distances → a.parents ≡ b.parents → a.end ≡ b.end
      → a.levels ≡ b.levels → a.edges ≡ b.edges → a.denominator ≡ b.denominator → a.numerators ≡ b.numerators → a ≡ b
  unfolding as_sheet
  same-sheet = same_parts

  same-held : (s : List ℕ) → LongHeld s a → LongHeld s b → a ≡ b
  same-held s p q =
      same-sheet (p.strains ∙ sym q.strains) (p.pairs ∙ sym q.pairs) (p.distances ∙ sym q.distances) (p.parents ∙ sym q.parents) (p.end ∙ sym q.end)
      (p.levels ∙ sym q.levels) (p.edges ∙ sym q.edges) (p.denominator ∙ sym q.denominator) (p.numerators ∙ sym q.numerators)

pub one-long-sheet : (s : List ℕ) (a b : Result LongSheet Refusal) → LongAnswer s a → LongAnswer s b → a ≡ b
one-long-sheet s a b p q =
    one_result (LongHeld s) (LongHeld s) (λ x y. same-held x y s) a b (p.answer ∙ sym q.answer) p.held q.held
