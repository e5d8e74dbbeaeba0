-- A report's contract leaves one report and one content of the buffer: two that meet it on the same input are equal. So are two by
-- different rules that give the same answer.
use mathlib.Core.Path.{◌≡◌, sym, ◌∙◌, ap, ap₂}
use mathlib.Core.List.{List}
use Prim.Native.Nat.{ℕ}
use lib.IntN.{ℤ}
use Rattle.std.specs.Prelude.{Result, Ok, Err}
use Rattle.mean.specs.Mean.{Mean}
use Rattle.verdict.specs.declared.Refusal.{Refusal}
use Rattle.verdict.specs.Answer.{Answer}
use Rattle.verdict.specs.declared.Rule.{Rule}
use Rattle.verdict.proofs.Answers.{one_result, not_pass}
use Rattle.reporting.specs.declared.FitReport.{FitReport}
use Rattle.reporting.specs.Answers.{Reported, Report}

-- what two reports have in common
pub record SameNumbers (x y : FitReport) : Type 0 where
  pub strains : x.strains ≡ y.strains
  pub edges : x.edges ≡ y.edges
  pub denominator : x.denominator ≡ y.denominator
  pub total : x.length ≡ y.length
  pub f : x.f ≡ y.f
  pub r : x.r ≡ y.r
  pub h : x.h ≡ y.h
  pub mean : x.mean ≡ y.mean

same-report : (x y : FitReport) → SameNumbers x y → x ≡ y
same-report x y s =
    ap (λ (a : ℕ). whole a x.edges x.denominator x.length x.f x.r x.h x.mean) s.strains
    ∙ ap₂ (λ (b c : ℕ). whole y.strains b c x.length x.f x.r x.h x.mean) s.edges s.denominator
    ∙ ap₂ (λ (z f : ℤ). whole y.strains y.edges y.denominator z f x.r x.h x.mean) s.total s.f
    ∙ ap₂ (λ (r h : ℤ). whole y.strains y.edges y.denominator y.length y.f r h x.mean) s.r s.h
    ∙ ap (λ (m : Mean). whole y.strains y.edges y.denominator y.length y.f y.r y.h m) s.mean
  where
    whole : ℕ → ℕ → ℕ → ℤ → ℤ → ℤ → ℤ → Mean → FitReport
    whole a b c z f r h m = record { strains = a; edges = b; denominator = c; length = z; f = f; r = r; h = h; mean = m }

module _ (rule rule' : Rule) (N : ℕ) (ds ps : List ℕ) (D : ℕ) (ns after after' : List ℤ) where
  fits : (x y : FitReport) → Reported rule N ds ps D ns after x → Reported rule' N ds ps D ns after' y → SameNumbers x y
  fits x y a b = record {
    strains = a.strains ∙ sym b.strains;
    edges = a.edges ∙ sym b.edges;
    denominator = a.denominator ∙ sym b.denominator;
    total = a.total ∙ sym b.total;
    f = a.f ∙ sym b.f;
    r = a.r ∙ sym b.r;
    h = a.h ∙ sym b.h;
    mean = a.mean ∙ sym b.mean;
  }

  -- the numbers of a fit are one
  pub one-fit : (x y : FitReport) → Reported rule N ds ps D ns after x → Reported rule' N ds ps D ns after' y → x ≡ y
  one-fit x y a b = same-report x y (fits x y a b)

module _ (k : Answer) (rule rule' : Rule) (N : ℕ) (ds ps : List ℕ) (D : ℕ) (ns before after after' : List ℤ) where
  pub one-report : (x y : Result FitReport Refusal) → Report k rule N ds ps D ns before after x → Report k rule' N ds ps D ns before after' y → (x ≡ y) × (after ≡ after')
  one-report x y p q = (
    one_result (Reported rule N ds ps D ns after) (Reported rule' N ds ps D ns after') (one-fit rule rule' N ds ps D ns after after') x y (p.answer ∙ sym q.answer) p.reported q.reported,
    same_buffer x y p q,
  )
    where
      same_buffer : (x y : Result FitReport Refusal) → Report k rule N ds ps D ns before after x → Report k rule' N ds ps D ns before after' y → after ≡ after'
      same_buffer (Ok a) (Ok b) p q = p.reported.rounded ∙ sym q.reported.rounded
      same_buffer (Ok a) (Err r) p q = absurd (not_pass r (q.answer ∙ sym p.answer))
      same_buffer (Err r) (Ok b) p q = absurd (not_pass r (p.answer ∙ sym q.answer))
      same_buffer (Err r) (Err t) p q = p.kept ∙ sym q.kept
