-- The print of a report is the print of what it is of (`report-is`): it shows the tables at the edges alone.
use mathlib.Core.Path.{◌≡◌, refl, ◌∙◌, ap, ap₂}
use mathlib.Core.List.{List, [], ◌∷◌, ◌++◌}
use Prim.Native.Nat.{ℕ, zero, suc, ◌<◌}
use native.Mathlib.Omega.{arith}
use lib.IntN.{ℤ, pos}
use lib.ListN.{length}
use Rattle.exact.specs.Table.{entry_of}
use Rattle.verdict.specs.declared.Rule.{Rule}
use Rattle.mean.specs.Mean.{Mean}
use Rattle.fit_theory.specs.Quantities.{tree_length, f_of, r_of, h_of, rounded_of}
use Rattle.lines.specs.Lines.{line, edge_word, edge_lines, fit_text, fit_word, length_word, square_word, mean_line, fit_text_by, edge_lines_by}
use Rattle.reporting.specs.declared.FitReport.{FitReport}
use Rattle.reporting.specs.Answers.{Reported}
use Rattle.answer_lines.specs.Texts.{fit_of}

-- rows that agree at the edges have the same lines
pub rows_cong : (K : ℕ) (row row' : ℕ → List ℤ) → ((v : ℕ) → v < K → row v ≡ row' v) → edge_lines K row ≡ edge_lines K row'
unfolding edge_lines_by
rows_cong zero row row' f = refl
rows_cong (suc K) row row' f = ap₂ ◌++◌ (rows_cong K row row' (λ v l. f v (omega arith))) (ap (λ (r : List ℤ). line edge_word (pos K ∷ r)) (f K (omega arith)))

fit_cong : (rule : Rule) (N K D : ℕ) (n n' m m' : ℕ → ℤ) (total F R H : ℤ) (mean : Mean) → ((v : ℕ) → v < K → n v ≡ n' v) → ((v : ℕ) → v < K → m v ≡ m' v)
    → fit_text rule N K D n m total F R H mean ≡ fit_text rule N K D n' m' total F R H mean
unfolding fit_text_by
fit_cong rule N K D n n' m m' total F R H mean f g =
    ap (λ (e : List ℕ). line (fit_word rule) (pos N ∷ pos K ∷ pos D ∷ []) ++ (e ++ (line length_word (total ∷ []) ++ (line square_word (F ∷ R ∷ H ∷ []) ++ mean_line F mean))))
    (rows_cong K (λ v. n v ∷ m v ∷ []) (λ v. n' v ∷ m' v ∷ []) (λ v l. ap₂ (λ (a b : ℤ). a ∷ b ∷ []) (f v l) (g v l)))

module _ (rule : Rule) (N : ℕ) (ds ps : List ℕ) (D : ℕ) (ns after : List ℤ) (x : FitReport) (p : Reported rule N ds ps D ns after x) where
  pub report-is : (n m : ℕ → ℤ) → ((v : ℕ) → v < length ps → n v ≡ entry_of ns v) → ((v : ℕ) → v < length ps → m v ≡ rounded_of D ns v)
      → fit_text rule x.strains x.edges x.denominator n m x.length x.f x.r x.h x.mean ≡ fit_of rule N ds ps D ns
  report-is n m f g =
      ap₂ (λ (a b : ℕ). fit_text rule a b x.denominator n m x.length x.f x.r x.h x.mean) p.strains p.edges
      ∙ ap (λ (a : ℕ). fit_text rule N (length ps) a n m x.length x.f x.r x.h x.mean) p.denominator
      ∙ fit_cong rule N (length ps) D n (entry_of ns) m (rounded_of D ns) x.length x.f x.r x.h x.mean f g
      ∙ ap₂ (λ (t F : ℤ). fit_text rule N (length ps) D (entry_of ns) (rounded_of D ns) t F x.r x.h x.mean) p.total p.f
      ∙ ap₂ (λ (R H : ℤ). fit_text rule N (length ps) D (entry_of ns) (rounded_of D ns) (tree_length ns) (f_of N ds ps D ns) R H x.mean) p.r p.h
      ∙ ap (λ (a : Mean). fit_text rule N (length ps) D (entry_of ns) (rounded_of D ns) (tree_length ns) (f_of N ds ps D ns) (r_of N ds ps D ns) (h_of N ds ps) a) p.mean
