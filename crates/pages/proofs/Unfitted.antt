-- The print of a sheet's direct fit is the print of the sheet without lengths.
-- `few-edges`: what the print asks. `shown-is`: the text of the fit is the print of what the sheet holds.
use mathlib.Core.Path.{◌≡◌, ◌∙◌, ap, ap₂, subst}
use mathlib.Core.List.{List, [], ◌∷◌, ◌++◌}
use Prim.Native.Nat.{ℕ, ◌≤◌, ◌<◌}
use native.Mathlib.Omega.{arith}
use lib.IntN.{ℤ, pos}
use lib.ListN.{length, get_or}
use Rattle.verdict.specs.declared.Refusal.{Refusal}
use Rattle.std.specs.Prelude.{Result, Ok, Err, IfOk}
use Rattle.verdict.proofs.Answers.{not_pass}
use Rattle.exact.specs.Table.{entry_of}
use Rattle.tree_theory.specs.Limits.{max_edges}
use Rattle.direct_theory.specs.Lengths.{top_of, bottom_of, thousandth_of}
use Rattle.writing.specs.Text.{Wrote}
use Rattle.lines.specs.Lines.{line, resolved_word, square_word, resolved_text}
use Rattle.lines.specs.Page.{page_size}
use Rattle.lines.proofs.Sizes.{resolved-text-length}
use Rattle.reading.specs.Holds.{strains_of, distances_of, parents_of}
use Rattle.unfitted_sheet.specs.declared.UnfittedFit.{UnfittedFit}
use Rattle.unfitted_sheet.specs.Fits.{unfitted_tests, Fitted, UnfittedAnswer}
use Rattle.answer_lines.specs.Texts.{of_direct, direct_text}
use Rattle.pages.specs.Texts.{fit_of_unfitted, unfitted_text, Shown}
use Rattle.pages.proofs.Texts.{text-by-answer, fits_page, whole_page}
use Rattle.answer_lines.proofs.Fits.{rows_cong}

fit_cong : (N K : ℕ) (n n' : ℕ → ℤ) (d d' : ℕ → ℕ) (m m' : ℕ → ℤ) (R H : ℤ) → ((v : ℕ) → v < K → n v ≡ n' v) → ((v : ℕ) → v < K → d v ≡ d' v) → ((v : ℕ) → v < K → m v ≡ m' v)
    → resolved_text N K n d m R H ≡ resolved_text N K n' d' m' R H
unfolding resolved_text
fit_cong N K n n' d d' m m' R H f g h =
    ap (λ (e : List ℕ). line resolved_word (pos N ∷ pos K ∷ []) ++ (e ++ line square_word (R ∷ H ∷ [])))
    (rows_cong K (λ v. n v ∷ pos (d v) ∷ m v ∷ []) (λ v. n' v ∷ pos (d' v) ∷ m' v ∷ [])
    (λ v l. ap₂ (λ (a : ℤ) (b : ℕ). a ∷ pos b ∷ m v ∷ []) (f v l) (g v l) ∙ ap (λ (c : ℤ). n' v ∷ pos (d' v) ∷ c ∷ []) (h v l)))

module _ (s : List ℕ) where
  text-is : (x : UnfittedFit) → Fitted s x → of_direct x ≡ fit_of_unfitted s
  text-is x fit =
      ap₂ (λ (N K : ℕ). resolved_text N K (entry_of x.tops) (λ v. get_or x.bottoms v 0) (entry_of x.rounded) x.fit.r x.fit.h) fit.strains fit.edges
      ∙ fit_cong (strains_of s) (length (parents_of s)) (entry_of x.tops) (top_of (strains_of s) (distances_of s) (parents_of s)) (λ v. get_or x.bottoms v 0) (bottom_of (strains_of s) (distances_of s) (parents_of s)) (entry_of x.rounded) (thousandth_of (strains_of s) (distances_of s) (parents_of s)) x.fit.r x.fit.h fit.tops.entries fit.bottoms.entries fit.rounded.entries
      ∙ ap₂ (λ (R H : ℤ). resolved_text (strains_of s) (length (parents_of s)) (top_of (strains_of s) (distances_of s) (parents_of s)) (bottom_of (strains_of s) (distances_of s) (parents_of s)) (thousandth_of (strains_of s) (distances_of s) (parents_of s)) R H) fit.resolves.r fit.resolves.h

  pub few-edges : (r : Result UnfittedFit Refusal) → UnfittedAnswer s r → IfOk r (λ x. x.edges ≤ max_edges)
  few-edges (Ok x) a = let b = a.fitted in omega (arith, b.edges, b.few)
  few-edges (Err q) a = tt

  pub shown-is : (r : Result UnfittedFit Refusal) → UnfittedAnswer s r → direct_text r ≡ unfitted_text s
  shown-is (Ok x) a = text-by-answer of_direct (unfitted_tests s) (fit_of_unfitted s) (Ok x) a.answer (text-is x a.fitted)
  shown-is (Err q) a = text-by-answer of_direct (unfitted_tests s) (fit_of_unfitted s) (Err q) a.answer tt

  fits : (r : Result UnfittedFit Refusal) → UnfittedAnswer s r → length (unfitted_text s) ≤ page_size
  fits (Ok x) a = fits_page (unfitted_tests s) (fit_of_unfitted s) (λ _. resolved-text-length _ (length (parents_of s)) _ _ _ _ _ a.fitted.few)
  fits (Err q) a = fits_page (unfitted_tests s) (fit_of_unfitted s) (λ z. absurd (not_pass q (a.answer ∙ z)))

  -- so what is written is the print of the sheet
  pub shows-unfitted : (r : Result UnfittedFit Refusal) → UnfittedAnswer s r → (before after : List ℕ) (next : ℕ) → page_size ≤ length before → Wrote before after 0 (direct_text r) next
      → Shown (unfitted_text s) before after next
  shows-unfitted r a before after next h w = whole_page page_size (unfitted_text s) before after next (fits r a)
      h (subst (λ (t : List ℕ). Wrote before after 0 t next) (shown-is r a) w)
