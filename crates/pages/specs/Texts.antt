-- The prints as functions of a sheet's bytes, and what a writer of one leaves.
use Rattle.std.specs.Prelude.{◌≡◌, List, ℕ, ◌≤◌, ◌<◌, length}
use Rattle.verdict.specs.declared.Rule.{Rule}
use Rattle.fit_theory.specs.Quantities.{h_of}
use Rattle.direct_theory.specs.Lengths.{top_of, bottom_of, thousandth_of, square_of}
use Rattle.writing.specs.Text.{Wrote}
use Rattle.lines.specs.Lines.{resolved_text}
use Rattle.lines.specs.Page.{page_size}
use Rattle.reading.specs.Holds.{strains_of, distances_of, parents_of, denominator_of, numerators_of}
use Rattle.reading.specs.Tests.{sheet_tests}
use Rattle.unfitted_sheet.specs.Fits.{unfitted_tests}
use Rattle.answer_lines.specs.Texts.{by_answer, fit_of}

-- the print of what an accepted sheet holds
abbrev pub fit_of_sheet : Rule → List ℕ → List ℕ
fit_of_sheet rule s = fit_of rule (strains_of s) (distances_of s) (parents_of s) (denominator_of s) (numerators_of s)

-- the print of a sheet by a rule
abbrev pub sheet_text : Rule → List ℕ → List ℕ
sheet_text rule s = by_answer (sheet_tests rule s) (fit_of_sheet rule s)

-- resolved N K; edge, the numerator and the denominator of its length, m for each edge; R, H
abbrev pub fit_of_unfitted : List ℕ → List ℕ
fit_of_unfitted s =
    resolved_text (strains_of s) (length (parents_of s))
    (top_of (strains_of s) (distances_of s) (parents_of s))
    (bottom_of (strains_of s) (distances_of s) (parents_of s))
    (thousandth_of (strains_of s) (distances_of s) (parents_of s))
    (square_of (strains_of s) (distances_of s) (parents_of s))
    (h_of (strains_of s) (distances_of s) (parents_of s))

-- the print of a sheet without lengths
abbrev pub unfitted_text : List ℕ → List ℕ
unfitted_text s = by_answer (unfitted_tests s) (fit_of_unfitted s)

-- a text at the front of a buffer of so many bytes or more; one that is smaller is left as it was
pub record ShownOn (size : ℕ) (text before after : List ℕ) (next : ℕ) : Type 0 where
  pub written : size ≤ length before → Wrote before after 0 text next
  pub short : length before < size → (next ≡ 0) × (after ≡ before)
  pub within : next ≤ length after

-- of a page
abbrev pub Shown : List ℕ → List ℕ → List ℕ → ℕ → Type 0
Shown text before after next = ShownOn page_size text before after next
