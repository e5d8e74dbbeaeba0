-- The print by the numbers of the strains is the one by names that are those numbers.
use mathlib.Core.Path.{◌≡◌, ap, ap₂, ◌∙◌, subst}
use mathlib.Core.List.{List, [], ◌∷◌, ◌++◌}
use Prim.Native.Nat.{ℕ, ◌+◌, ◌-◌, ◌≤◌, ◌<◌}
use native.Mathlib.Decide.{dec_lt}
use native.Mathlib.Omega.{arith}
use lib.IntN.{ℤ, pos}
use lib.ListN.{length}
use Rattle.exact.proofs.Decide.{by_cases}
use Rattle.verdict.specs.declared.Rule.TheVariants.{Plain}
use Rattle.matrix.specs.Limits.{max_strains}
use Rattle.matrix.specs.Place.{measured, distance}
use Rattle.fit_theory.specs.Quantities.{path_of, remainder_of}
use Rattle.writing.specs.Text.{decimal, Wrote}
use Rattle.lines.specs.Lines.{line, fit_word}
use Rattle.pieces.proofs.Pieces.{pieces_cong}
use Rattle.records.specs.Names.{name_start}
use Rattle.names.specs.Record.{name_of}
use Rattle.labels.specs.Labels.{number_names}
use Rattle.labels.proofs.Called.{number-name, number_short, number-within, numbers_end}
use Rattle.pair_line.specs.Line.{pair_line}
use Rattle.pair_lines.specs.Lines.{rounded_path, line_of, row_of, pairs_text, NamesFrom}

-- strains that are called alike are printed alike
module _ (N : ℕ) (ds ps : List ℕ) (D : ℕ) (ns : List ℤ) (one two : ℕ → List ℕ) (alike : (i : ℕ) → i < N → one i ≡ two i) where
  row-alike : (i : ℕ) → i < N → row_of one N ds ps D ns i ≡ row_of two N ds ps D ns i
  unfolding row_of line_of
  row-alike i h = pieces_cong (N - (i + 1)) (λ k. line_of one ds ps D ns i (i + 1 + k)) (λ k. line_of two ds ps D ns i (i + 1 + k))
      (λ k l. ap₂ (λ (a b : List ℕ). pair_line a b (measured ds (i, i + 1 + k)) (distance ds (i, i + 1 + k)) (path_of ps ns (i, i + 1 + k)) (rounded_path ps D ns (i, i + 1 + k)) (remainder_of ds ps D ns (i, i + 1 + k)))
      (alike i h) (alike (i + 1 + k) (omega arith)))

  pub text-alike : pairs_text one N ds ps D ns ≡ pairs_text two N ds ps D ns
  unfolding pairs_text
  text-alike = ap (λ (l : List ℕ). line (fit_word Plain) (pos N ∷ pos (length ps) ∷ pos D ∷ []) ++ l) (pieces_cong N (row_of one N ds ps D ns) (row_of two N ds ps D ns) row-alike)

module _ (N : ℕ) (few : N ≤ max_strains) (r : List ℕ) (e : r ≡ number_names) where
  within : name_start number_names 0 N ≤ length number_names
  within = by_cases (dec_lt N max_strains) (number-within N) (λ h. let q : N ≡ max_strains = omega arith in rw q numbers_end)

  pub numbers_from : NamesFrom r 0 N
  numbers_from = rw e (record { within = within; short = λ i h. number_short i (omega arith) })

pub by_numbers : (N : ℕ) (ds ps : List ℕ) (D : ℕ) (ns : List ℤ) → N ≤ max_strains → (r : List ℕ) → r ≡ number_names
    → {b c : List ℕ} {k : ℕ} → Wrote b c 0 (pairs_text (name_of r 0) N ds ps D ns) k → Wrote b c 0 (pairs_text decimal N ds ps D ns) k
by_numbers N ds ps D ns few r e {b} {c} {k} w =
    subst (λ (l : List ℕ). Wrote b c 0 l k) (text-alike N ds ps D ns (name_of r 0) decimal (λ i h. ap (λ (l : List ℕ). name_of l 0 i) e ∙ number-name i (omega arith))) w
