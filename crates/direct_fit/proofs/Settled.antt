-- The contracts leave one answer and one content of each buffer: two that meet them on the same input are equal. `one-direct` for
-- `fit_resolved`, `one-lengths` for `resolved_lengths`.
use mathlib.Core.Path.{◌≡◌, sym, ◌∙◌, ap, ap₂}
use mathlib.Core.List.{List}
use Prim.Native.Nat.{ℕ}
use lib.IntN.{ℤ}
use lib.ListN.{length}
use Rattle.verdict.specs.Answer.{pass}
use Rattle.exact.proofs.Decide.{by_cases}
use Rattle.std.specs.Prelude.{Result, Ok, Err}
use Rattle.verdict.specs.declared.Refusal.{Refusal}
use Rattle.verdict.proofs.Answers.{passes, not_pass, one_result}
use Rattle.direct_theory.specs.Tests.{direct_tests}
use Rattle.direct_fit.specs.declared.DirectFit.{DirectFit}
use Rattle.direct_fit.specs.Answers.{Resolves, DirectAnswer, LengthsAnswer}

same-fit : (x y : DirectFit) → x.r ≡ y.r → x.h ≡ y.h → x ≡ y
same-fit x y r h = ap₂ (λ (a b : ℤ). whole a b) r h
  where
    whole : ℤ → ℤ → DirectFit
    whole a b = record { r = a; h = b }

module _ (N : ℕ) (ds ps : List ℕ) (nb na na' : List ℤ) (eb ea ea' : List ℕ) (mb ma ma' : List ℤ) where
  here : Dec (direct_tests N ds ps (length nb) (length eb) (length mb) ≡ pass)
  here = passes (direct_tests N ds ps (length nb) (length eb) (length mb))

  buffers : (x y : Result DirectFit Refusal) → DirectAnswer N ds ps nb na eb ea mb ma x → DirectAnswer N ds ps nb na' eb ea' mb ma' y
      → (na ≡ na') × (ea ≡ ea') × (ma ≡ ma')
  buffers (Ok x) (Ok y) p q = (p.fit.tops ∙ sym q.fit.tops, p.fit.bottoms ∙ sym q.fit.bottoms, p.fit.rounded ∙ sym q.fit.rounded)
  buffers (Ok x) (Err r) p q = absurd (not_pass r (q.answer ∙ sym p.answer))
  buffers (Err r) (Ok y) p q = absurd (not_pass r (p.answer ∙ sym q.answer))
  buffers (Err r) (Err t) p q = (p.kept.0 ∙ sym q.kept.0, p.kept.1 ∙ sym q.kept.1, p.kept.2 ∙ sym q.kept.2)

  pub one-direct : (x y : Result DirectFit Refusal) → DirectAnswer N ds ps nb na eb ea mb ma x → DirectAnswer N ds ps nb na' eb ea' mb ma' y
      → (x ≡ y) × (na ≡ na') × (ea ≡ ea') × (ma ≡ ma')
  one-direct x y p q = let (tops, bottoms, rounded) = buffers x y p q in (
    one_result (Resolves N ds ps na ea ma) (Resolves N ds ps na' ea' ma') (λ a b f g. same-fit a b (f.r ∙ sym g.r) (f.h ∙ sym g.h)) x y (p.answer ∙ sym q.answer) p.fit q.fit,
    tops,
    bottoms,
    rounded,
  )

  pub one-lengths : (x y : ℕ) → LengthsAnswer N ds ps nb na eb ea mb ma x → LengthsAnswer N ds ps nb na' eb ea' mb ma' y
      → (x ≡ y) × (na ≡ na') × (ea ≡ ea') × (ma ≡ ma')
  one-lengths x y p q = (
    p.number ∙ sym q.number,
    by_cases here (λ z. p.tops z ∙ sym (q.tops z)) (λ z. (p.kept z).0 ∙ sym (q.kept z).0),
    by_cases here (λ z. p.bottoms z ∙ sym (q.bottoms z)) (λ z. (p.kept z).1 ∙ sym (q.kept z).1),
    by_cases here (λ z. p.rounded z ∙ sym (q.rounded z)) (λ z. (p.kept z).2 ∙ sym (q.kept z).2),
  )
