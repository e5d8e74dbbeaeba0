-- Where each line ends, at the latest, and the five pieces of the print, one behind another.
use mathlib.Core.Path.{◌≡◌}
use mathlib.Core.List.{List, [], ◌∷◌, ◌++◌}
use Prim.Native.Nat.{ℕ, ◌+◌, ◌*◌, ◌^◌, ◌≤◌, ◌<◌}
use native.Mathlib.Omega.{arith}
use lib.IntN.{ℤ, pos}
use lib.ListN.{length, get_or}
use mir.Syntax.{w64}
use mir.Val.{SFits}
use Rattle.exact.proofs.Sign.{fits_abs}
use Rattle.verdict.specs.declared.Rule.{Rule}
use Rattle.mean.specs.Mean.{Mean}
use Rattle.tree_theory.specs.Limits.{max_edges}
use Rattle.writing.specs.Text.{Wrote}
use Rattle.writing.proofs.Writing.{wrote_then, wrote-length}
use Rattle.lines.specs.Lines.{line_by, edge_lines_by, fit_text_by, fit_word, length_word, square_word, mean_line_by}
use Rattle.lines.proofs.Sizes.{word-length}
use Rattle.long_theory.specs.Long.{LongProper}
use Rattle.long_writing.specs.Decimals.{long_signed}
use Rattle.long_fields.specs.Fields.{widest_edge}
use Rattle.long_fields.proofs.Numbers.{short-length, one-length, three-length}
use Rattle.long_lines.specs.LongLines.{long_page_size, widest_line, Digits}

pub denominator-digits : {K : ℕ} {Ds : List ℕ} {ns : List ℤ} → LongProper K Ds ns → Digits (length Ds) Ds
denominator-digits w = record { most = omega (arith, w.most); there = omega arith; small = w.digits }

-- ---- where lines end
pub first-end : {b c : List ℕ} {r : ℕ} (rule : Rule) (n k D : ℕ) → n < 2 ^ 63 → k < 2 ^ 63 → length (long_signed (pos D)) ≤ 330 → Wrote b c 0 (line_by long_signed (fit_word rule) (pos n ∷ pos k ∷ pos D ∷ [])) r → r ≤ widest_line
first-end rule n k D h g l w = omega (arith, w.place, three-length (fit_word rule) (pos n) (pos k) (pos D), word-length rule, short-length (pos n) (fits_abs (pos n) h), short-length (pos k) (fits_abs (pos k) g))

module _ {b c : List ℕ} {at r : ℕ} where
  pub length-end : (z : ℤ) → length (long_signed z) ≤ 331 → Wrote b c at (line_by long_signed length_word (z ∷ [])) r → r ≤ at + widest_line
  length-end z l w = omega (arith, w.place, one-length length_word z)

  pub square-end : (F R H : ℤ) → length (long_signed F) ≤ 330 → SFits w64 R → SFits w64 H → Wrote b c at (line_by long_signed square_word (F ∷ R ∷ H ∷ [])) r → r ≤ at + widest_line
  square-end F R H l g h w = omega (arith, w.place, three-length square_word F R H, short-length R g, short-length H h)

-- ---- the pieces
behind : {b c d : List ℕ} {at i k : ℕ} {s t : List ℕ} → i ≤ length b → Wrote b c at s i → (length c ≡ length b → Wrote c d i t k) → Wrote b d at (s ++ t) k
behind {b} {c} {d} {at} {i} {k} {s} {t} h p q = wrote_then {s = s} (omega (arith, p.place)) p (q (wrote-length {b = b} {c = c} {s = s} (omega (arith, p.place)) p))

module _ (rule : Rule) (N K D : ℕ) (n m : ℕ → ℤ) (total F R H : ℤ) (mean : Mean) {b c d e f g : List ℕ} {i j k l o : ℕ} (page : long_page_size ≤ length b) (few : K ≤ max_edges) where
  pub joined : Wrote b c 0 (line_by long_signed (fit_word rule) (pos N ∷ pos K ∷ pos D ∷ [])) i → i ≤ widest_line
      → Wrote c d i (edge_lines_by long_signed K (λ v. n v ∷ m v ∷ [])) j → j ≤ i + widest_edge * K
      → Wrote d e j (line_by long_signed length_word (total ∷ [])) k → k ≤ j + widest_line
      → Wrote e f k (line_by long_signed square_word (F ∷ R ∷ H ∷ [])) l → l ≤ k + widest_line
      → Wrote f g l (mean_line_by long_signed F mean) o → Wrote b g 0 (fit_text_by long_signed rule N K D n m total F R H mean) o
  unfolding fit_text_by
  joined w1 h1 w2 h2 w3 h3 w4 h4 w5 = behind (omega arith) w1 (λ s1. behind (omega arith) w2 (λ s2. behind (omega arith) w3 (λ s3. behind (omega arith) w4 (λ s4. w5))))
