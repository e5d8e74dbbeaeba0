-- One fit, two forms, one print: `same-fit` for a matrix, a tree and lengths; `same_print` for a sheet and a long sheet that hold them and are both accepted.
use mathlib.Core.Path.{◌≡◌, sym, ◌∙◌, ap, ap₂}
use mathlib.Core.Bool.{Bool, true, false, cond}
use mathlib.Core.List.{List}
use Prim.Native.Nat.{ℕ, zero, suc, ◌*◌, ◌-◌, ◌≤◌, ◌<◌}
use native.Mathlib.Nat.{mul-le-mul}
use native.Mathlib.Omega.{arith}
use lib.IntN.{ℤ, pos, nat_abs}
use lib.ListN.{length}
use Rattle.exact.specs.Table.{entry_of}
use Rattle.exact.proofs.Order.{≤_trans}
use Rattle.verdict.specs.Answer.{Answer, pass}
use Rattle.verdict.specs.declared.Rule.{Rule}
use Rattle.std.specs.Prelude.{None}
use Rattle.mean.specs.Mean.{times, mean_of}
use Rattle.matrix.specs.Place.{pair_count, some_missing}
use Rattle.fit_theory.specs.Quantities.{parts_in, rounded_of, tree_length, f_of, r_of, h_of}
use Rattle.fit_theory.specs.Stands.{Stands}
use Rattle.fit_theory.proofs.Demand3.{r-range}
use Rattle.fit_theory.proofs.Ranges.{bounds, rounded-range}
use Rattle.edge_numbers.proofs.Totals.{between}
use Rattle.reporting.proofs.Numbers.{edges_few, total-near, f-fits, h_fits}
use Rattle.long_reporting.proofs.Reporting.{left-small}
use Rattle.answer_lines.specs.Texts.{by_answer, fit_of}
use Rattle.reading.specs.Holds.{strains_of, distances_of, parents_of, denominator_of, numerators_of}
use Rattle.reading.specs.Tests.{sheet_tests}
use Rattle.sheet.proofs.Laws.{sheet-stands}
use Rattle.pages.specs.Texts.{fit_of_sheet, sheet_text}
use Rattle.long_theory.specs.Long.{long_denominator, long_numerators}
use Rattle.long_reading.specs.LongHolds.{denominator_digits_of, numerator_digits_of}
use Rattle.long_sheet.specs.LongSheets.{long_sheet_tests}
use Rattle.long_fit_lines.specs.LongTexts.{wide_fit_of}
use Rattle.long_prints.specs.LongPrints.{fit_of_long, long_text}
use Rattle.long_prints.proofs.Short.{LowMean, short-text}

low-mean : (missing : Bool) (D k : ℕ) → D ≤ 1000000 → k ≤ 2016 → LowMean (cond missing None (times D k))
low-mean true D k h g = tt
low-mean false D zero h g = tt
low-mean false D (suc k) h g = omega (arith, mul-le-mul {n₁ = D} {m₁ = suc k} {n₂ = 1000000} {m₂ = 2016} h g)

pub same-fit : (rule : Rule) (N : ℕ) (ds ps : List ℕ) (D : ℕ) (ns : List ℤ) → Stands rule N ds ps D ns → wide_fit_of rule N ds ps D ns ≡ fit_of rule N ds ps D ns
same-fit rule N ds ps D ns s =
    let f = f-fits rule N ds ps D ns s in
    let h = h_fits rule N ds ps D ns s in
    let (low, high) = r-range rule N ds ps D ns s.fitted in
    short-text rule N (length ps) D (entry_of ns) (rounded_of D ns) (tree_length ns) (f_of N ds ps D ns) (r_of N ds ps D ns) (h_of N ds ps) (mean_of N ds (length ps) D)
    (omega (arith, s.fitted.posted.matrix.few)) (edges_few rule N ds ps D ns s) (omega (arith, s.lengths.most))
    (λ v l. omega (arith, s.lengths.near v (omega (arith, s.lengths.whole))))
    (λ v l. omega (arith, rounded-range (bounds s.fitted.posted.matrix s.lengths) (parts_in ds ps) s.lengths.one v l))
    (omega (arith, total-near rule N ds ps D ns s))
    (omega (arith, between (f_of N ds ps D ns) 9223372036854775807 f.low f.high))
    (omega (arith, between (r_of N ds ps D ns) 9223372036854775807 low (≤_trans high (record { le = tt }))))
    (omega (arith, between (h_of N ds ps) 9223372036854775807 h.low h.high))
    (low-mean (some_missing ds) D (pair_count N - length ps) s.lengths.most (left-small (length ps) s.fitted.posted.matrix))

-- what the sheet s holds, the long sheet t holds
pub record SameHeld (s t : List ℕ) : Type 0 where
  pub strains : strains_of t ≡ strains_of s
  pub distances : distances_of t ≡ distances_of s
  pub parents : parents_of t ≡ parents_of s
  pub denominator : long_denominator (length (denominator_digits_of t)) (denominator_digits_of t) ≡ denominator_of s
  pub numerators : long_numerators (length (denominator_digits_of t)) (length (parents_of t)) (numerator_digits_of t) ≡ numerators_of s

pub same_print : (rule : Rule) (s t : List ℕ) → SameHeld s t → sheet_tests rule s ≡ pass → long_sheet_tests rule t ≡ pass → long_text rule t ≡ sheet_text rule s
same_print rule s t h z y =
    ap (λ (a : Answer). by_answer a (fit_of_long rule t)) y
    ∙ ap₂ (λ (D : ℕ) (ns : List ℤ). wide_fit_of rule (strains_of t) (distances_of t) (parents_of t) D ns) h.denominator h.numerators
    ∙ ap₂ (λ (N : ℕ) (ds : List ℕ). wide_fit_of rule N ds (parents_of t) (denominator_of s) (numerators_of s)) h.strains h.distances
    ∙ ap (λ (ps : List ℕ). wide_fit_of rule (strains_of s) (distances_of s) ps (denominator_of s) (numerators_of s)) h.parents
    ∙ same-fit rule (strains_of s) (distances_of s) (parents_of s) (denominator_of s) (numerators_of s) (sheet-stands s rule z)
    ∙ sym (ap (λ (a : Answer). by_answer a (fit_of_sheet rule s)) z)
