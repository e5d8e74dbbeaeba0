-- The print of a report in digits is the print of what it is of (`long-report-is`), and its numbers can be printed (`printable`).
use mathlib.Core.Path.{◌≡◌, refl, sym, ◌∙◌, ap, ap₂, subst}
use mathlib.Core.Bool.{Bool, true, false}
use mathlib.Core.List.{List, [], ◌∷◌, ◌++◌}
use Prim.Native.Nat.{ℕ, zero, suc, ◌+◌, ◌<◌, ◌≤◌}
use native.Mathlib.Omega.{arith}
use borrow.Author.Tests.{le-ltb}
use denote.Floats.{is_true}
use lib.IntN.{ℤ, pos, negsuc, nat_abs}
use lib.ListN.{length, get_or}
use lib.Signed.{le_z, lt_z}
use Rattle.exact.specs.Order.{◌≤ᶻ◌}
use Rattle.exact.specs.Table.{entry_of}
use Rattle.exact.proofs.Fill.{get_or_table}
use Rattle.exact.proofs.Sign.{is_pos}
use Rattle.verdict.specs.declared.Rule.{Rule}
use Rattle.mean.specs.Mean.{Mean}
use Rattle.std.specs.Prelude.{Option, Some, None, IfSome}
use Rattle.std.proofs.lemmas.Option.{none-some}
use Rattle.mean.specs.Mean.{mean_of}
use Rattle.fit_theory.specs.Quantities.{tree_length, f_of, r_of, h_of, rounded_of}
use Rattle.lines.specs.Lines.{line_by, edge_word, edge_lines_by, fit_text_by, fit_word, length_word, square_word, mean_line_by}
use Rattle.long_theory.specs.Long.{long_denominator, long_numerator, long_numerators}
use Rattle.long_numbers.specs.Wides.{Natural, Wides}
use Rattle.long_writing.specs.Decimals.{long_signed}
use Rattle.long_lines.specs.LongLines.{Digits, wide_of, mean_by}
use Rattle.long_reporting.specs.declared.LongReport.{LongReport}
use Rattle.long_reporting.specs.Reported.{Means, LongReported}
use Rattle.long_reporting.proofs.Reporting.{f-same, f-up}
use Rattle.long_fit_lines.specs.LongTexts.{long_fit_of, number_of, long_report_text, Printable}

-- ---- numbers by what is kept of them
up_is : (z : ℤ) → pos 0 ≤ᶻ z → pos (nat_abs z) ≡ z
up_is z h = sym (is_pos z (is_true (le_z (pos 0) z) h.le))

wide_is : (z : ℤ) (b : Bool) (n : ℕ) → b ≡ lt_z z (pos 0) → n ≡ nat_abs z → wide_of b n ≡ z
wide_is (pos m) b n e f = ap₂ wide_of (e ∙ le-ltb m 0 (omega arith)) f
wide_is (negsuc m) b n e f = ap₂ wide_of e f

mean-is : (L : ℕ) (m : Mean) (over : Option (List ℕ)) → Means L m over → mean_by (L + 3) over ≡ m
mean-is L None over e = ap (mean_by (L + 3)) e
mean-is L (Some z) None (up, n) = absurd n
mean-is L (Some z) (Some digits) (up, n) = ap Some (ap pos n.same ∙ up_is z up)

mean-over : (L : ℕ) (m : Mean) (over : Option (List ℕ)) → L + 3 ≤ 55 → Means L m over → IfSome over (λ o. Digits (L + 3) o)
mean-over L None None few e = tt
mean-over L None (Some digits) few e = absurd (none-some digits (sym e))
mean-over L (Some z) None few e = tt
mean-over L (Some z) (Some digits) few (up, n) = record { most = few; there = omega (arith, n.size); small = n.small }

-- ---- rows that agree at the edges have the same lines
rows_cong : (show : ℤ → List ℕ) (K : ℕ) (row row' : ℕ → List ℤ) → ((v : ℕ) → v < K → row v ≡ row' v) → edge_lines_by show K row ≡ edge_lines_by show K row'
unfolding edge_lines_by
rows_cong show zero row row' f = refl
rows_cong show (suc K) row row' f = ap₂ ◌++◌ (rows_cong show K row row' (λ v l. f v (omega arith))) (ap (λ (r : List ℤ). line_by show edge_word (pos K ∷ r)) (f K (omega arith)))

fit_cong : (show : ℤ → List ℕ) (rule : Rule) (N K D : ℕ) (n n' m m' : ℕ → ℤ) (total F R H : ℤ) (mean : Mean) → ((v : ℕ) → v < K → n v ≡ n' v) → ((v : ℕ) → v < K → m v ≡ m' v)
    → fit_text_by show rule N K D n m total F R H mean ≡ fit_text_by show rule N K D n' m' total F R H mean
unfolding fit_text_by
fit_cong show rule N K D n n' m m' total F R H mean f g =
    ap (λ (e : List ℕ). line_by show (fit_word rule) (pos N ∷ pos K ∷ pos D ∷ []) ++ (e ++ (line_by show length_word (total ∷ []) ++ (line_by show square_word (F ∷ R ∷ H ∷ []) ++ mean_line_by show F mean))))
    (rows_cong show K (λ v. n v ∷ m v ∷ []) (λ v. n' v ∷ m' v ∷ []) (λ v l. ap₂ (λ (a b : ℤ). a ∷ b ∷ []) (f v l) (g v l)))

-- ---- a report
module _ (rule : Rule) (N : ℕ) (ds ps Ds : List ℕ) (ns : List ℤ) (x : LongReport) (p : LongReported rule N ds ps Ds ns x) where
  abbrev L : ℕ
  L = length Ds

  abbrev K : ℕ
  K = length ps

  abbrev D : ℕ
  D = long_denominator L Ds

  abbrev tops : List ℤ
  tops = long_numerators L K ns

  total-is : wide_of x.length.negative (number_of L x.length.digits) ≡ tree_length tops
  total-is = wide_is (tree_length tops) x.length.negative (number_of L x.length.digits) p.total.sign p.total.magnitude.same

  f-is : pos (number_of L x.f) ≡ f_of N ds ps D tops
  f-is = ap pos p.f.same ∙ up_is (f_of N ds ps D tops) (subst (λ z. pos 0 ≤ᶻ z) (f-same rule N ds ps Ds ns p.stands) (f-up rule N ds ps Ds ns p.stands))

  pub printable : Printable L x
  printable = record {
    length_digits = record { most = omega (arith, p.stands.lengths.most); there = omega (arith, p.stands.lengths.most, p.total.magnitude.size); small = p.total.magnitude.small };
    sign = p.total.sign ∙ ap (λ (z : ℤ). lt_z z (pos 0)) (sym total-is);
    f-digits = record { most = omega (arith, p.stands.lengths.most); there = omega (arith, p.stands.lengths.most, p.f.size); small = p.f.small };
    mean-digits = mean-over L (mean_of N ds K D) x.mean (omega (arith, p.stands.lengths.most)) p.mean;
  }

  pub long-report-is : long_report_text rule Ds ns x ≡ long_fit_of rule N ds ps Ds ns
  long-report-is =
      ap₂ (λ (a b : ℕ). fit_text_by long_signed rule a b D (long_numerator L b ns) (entry_of x.rounded) (wide_of x.length.negative (number_of L x.length.digits)) (pos (number_of L x.f)) x.r x.h (mean_by (L + 3) x.mean)) p.strains p.edges
      ∙ fit_cong long_signed rule N K D (long_numerator L K ns) (entry_of tops) (entry_of x.rounded) (rounded_of D tops) _ _ _ _ _ (λ v l. sym (get_or_table K (long_numerator L K ns) (pos 0) v l)) p.rounded.entries
      ∙ ap₂ (λ (t F : ℤ). fit_text_by long_signed rule N K D (entry_of tops) (rounded_of D tops) t F x.r x.h (mean_by (L + 3) x.mean)) total-is f-is
      ∙ ap₂ (λ (R H : ℤ). fit_text_by long_signed rule N K D (entry_of tops) (rounded_of D tops) (tree_length tops) (f_of N ds ps D tops) R H (mean_by (L + 3) x.mean)) p.r p.h
      ∙ ap (λ (m : Mean). fit_text_by long_signed rule N K D (entry_of tops) (rounded_of D tops) (tree_length tops) (f_of N ds ps D tops) (r_of N ds ps D tops) (h_of N ds ps) m) (mean-is L (mean_of N ds K D) x.mean p.mean)
