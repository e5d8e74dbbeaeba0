-- The contract of `unfitted_fit` leaves one fit: two values that meet it on the same bytes are equal (`one-unfitted`).
use mathlib.Core.Path.{◌≡◌, sym, ◌∙◌, ap, ap₂}
use mathlib.Core.List.{List}
use Prim.Native.Nat.{ℕ}
use lib.IntN.{ℤ}
use Rattle.std.specs.Prelude.{Result}
use Rattle.verdict.specs.declared.Refusal.{Refusal}
use Rattle.verdict.proofs.Answers.{one_result}
use Rattle.tree_theory.proofs.EdgeTables.{one_table}
use Rattle.unfitted_sheet.specs.declared.UnfittedFit.{UnfittedFit}
use Rattle.unfitted_sheet.specs.Fits.{Fitted, UnfittedAnswer}

same-fit : (s : List ℕ) (x y : UnfittedFit) → Fitted s x → Fitted s y → x ≡ y
same-fit s x y a b =
    ap₂ (λ (r h : ℤ). whole r h x.strains x.edges x.tops x.bottoms x.rounded) (a.resolves.r ∙ sym b.resolves.r) (a.resolves.h ∙ sym b.resolves.h)
    ∙ ap₂ (λ (n k : ℕ). whole y.fit.r y.fit.h n k x.tops x.bottoms x.rounded) (a.strains ∙ sym b.strains) (a.edges ∙ sym b.edges)
    ∙ ap₂ (λ (ns : List ℤ) (es : List ℕ). whole y.fit.r y.fit.h y.strains y.edges ns es x.rounded) (one_table a.tops b.tops) (one_table a.bottoms b.bottoms)
    ∙ ap (λ (ms : List ℤ). whole y.fit.r y.fit.h y.strains y.edges y.tops y.bottoms ms) (one_table a.rounded b.rounded)
  where
    whole : ℤ → ℤ → ℕ → ℕ → List ℤ → List ℕ → List ℤ → UnfittedFit
    whole r h n k ns es ms = record { fit = record { r = r; h = h }; strains = n; edges = k; tops = ns; bottoms = es; rounded = ms }

pub one-unfitted : (s : List ℕ) (x y : Result UnfittedFit Refusal) → UnfittedAnswer s x → UnfittedAnswer s y → x ≡ y
one-unfitted s x y p q = one_result (Fitted s) (Fitted s) (same-fit s) x y (p.answer ∙ sym q.answer) p.fitted q.fitted
