-- The print of a fit in digits: of what a matrix, a tree and long lengths are, and of a report.
use Rattle.std.specs.Prelude.{◌≡◌, Bool, List, ℕ, ◌+◌, ℤ, pos, Option, IfSome, length, get_or}
use Rattle.std.specs.Int.Signed.{lt_z}
use Rattle.exact.specs.Table.{entry_of}
use Rattle.verdict.specs.declared.Rule.{Rule}
use Rattle.mean.specs.Mean.{mean_of}
use Rattle.fit_theory.specs.Quantities.{tree_length, f_of, r_of, h_of, rounded_of}
use Rattle.lines.specs.Lines.{fit_text_by}
use Rattle.long_digits.specs.Digits.{natural}
use Rattle.long_theory.specs.Long.{long_denominator, long_numerator, long_numerators}
use Rattle.long_writing.specs.Decimals.{long_signed}
use Rattle.long_lines.specs.LongLines.{Digits, wide_of, mean_by}
use Rattle.long_reporting.specs.declared.LongReport.{LongReport}

-- the print of the lengths ns over D in numbers of any size, of the tree ps and the matrix ds of N strains: fit or fit0, N K D; edge, n, m for each edge; the tree
-- length's numerator; F, R, H; the mean square
abbrev pub wide_fit_of : Rule → ℕ → List ℕ → List ℕ → ℕ → List ℤ → List ℕ
wide_fit_of rule N ds ps D ns = fit_text_by long_signed rule N (length ps) D (entry_of ns) (rounded_of D ns) (tree_length ns) (f_of N ds ps D ns) (r_of N ds ps D ns) (h_of N ds ps) (mean_of N ds (length ps) D)

-- of lengths in digits
abbrev pub long_fit_of : Rule → ℕ → List ℕ → List ℕ → List ℕ → List ℤ → List ℕ
long_fit_of rule N ds ps Ds ns = wide_fit_of rule N ds ps (long_denominator (length Ds) Ds) (long_numerators (length Ds) (length ps) ns)

-- the number that digits of a report write, three more than there are levels
abbrev pub number_of : ℕ → List ℕ → ℕ
number_of L digits = natural (L + 3) (λ k. get_or digits k 0)

-- by its numbers, beside the digits that they are of: the sign and the digits of the tree length, those of F, and the digits of what the mean square is over
abbrev pub numbers_text : Rule → ℕ → ℕ → List ℕ → List ℤ → List ℤ → Bool → List ℕ → List ℕ → ℤ → ℤ → Option (List ℕ) → List ℕ
numbers_text rule N K Ds ns ms negative total f R H over =
    fit_text_by long_signed rule N K (long_denominator (length Ds) Ds) (long_numerator (length Ds) K ns) (entry_of ms)
    (wide_of negative (number_of (length Ds) total)) (pos (number_of (length Ds) f)) R H (mean_by (length Ds + 3) over)

-- of a report
abbrev pub long_report_text : Rule → List ℕ → List ℤ → LongReport → List ℕ
long_report_text rule Ds ns x = numbers_text rule x.strains x.edges Ds ns x.rounded x.length.negative x.length.digits x.f x.r x.h x.mean

-- numbers are in digits, and the sign is that of the number
pub record Printed (L : ℕ) (negative : Bool) (total f : List ℕ) (over : Option (List ℕ)) : Type 0 where
  pub length_digits : Digits (L + 3) total
  pub sign : negative ≡ lt_z (wide_of negative (number_of L total)) (pos 0)
  pub f-digits : Digits (L + 3) f
  pub mean-digits : IfSome over (λ o. Digits (L + 3) o)

-- those of a report
abbrev pub Printable : ℕ → LongReport → Type 0
Printable L x = Printed L x.length.negative x.length.digits x.f x.mean
