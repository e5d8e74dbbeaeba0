-- Lengths that both forms hold get the same answer, but that the sum at its place is cut off: `same-answer-cut`; so the same number, and one is accepted where the other is.
use mathlib.Core.Path.{◌≡◌, refl, sym, ◌∙◌, ap, ap₂}
use mathlib.Core.Bool.{Bool, true, false, cond, not, ◌&&◌}
use mathlib.Core.List.{List}
use Prim.Native.Nat.{ℕ, ◌<◌, ◌≤◌}
use native.Mathlib.Omega.{arith}
use lib.Dec.{ltb}
use lib.IntN.{ℤ, pos, nat_abs}
use lib.ListN.{length}
use lib.Signed.{lt_z}
use Rattle.exact.specs.Table.{table, entry_of}
use Rattle.exact.proofs.Fill.{get_or_table, table_cong}
use Rattle.long_digits.specs.Clamp.{clamp, most}
use Rattle.long_digits.proofs.Clamps.{clamp_in, sign_zero, sign_above}
use Rattle.verdict.specs.Answer.{Answer, pass, fault, number, at_first, ◌or_else◌}
use Rattle.verdict.specs.Table.{first}
use Rattle.verdict.specs.declared.Place.TheVariants.{Edge, EdgeSum}
use Rattle.verdict.specs.declared.Rule.{Rule}
use Rattle.verdict.specs.declared.Rule.TheVariants.{Plain, Drawable}
use Rattle.verdict.proofs.Answers.{at_first_cong}
use Rattle.lengths.specs.Tests.{is_negative, sign_tests, lengths_tests}
use Rattle.lengths.proofs.Checked.{→proper}
use Rattle.fit_theory.specs.Quantities.{edge_sum_of}
use Rattle.fit_theory.specs.Tests.{not_zero, unbalanced, pulled, balance_tests, sums_tests, proposal_tests}
use Rattle.long_theory.specs.Long.{long_denominator, long_numerator, long_numerators}
use Rattle.long_theory.specs.Tests.{long_lengths_tests, tops_of, long_proposal_tests}
use Rattle.long_theory.specs.Same.{cut_answer}

-- ---- tests one behind the other, and tests over a table
cut_or_else : (a b : Answer) → cut_answer (a or_else b) ≡ (cut_answer a or_else cut_answer b)
cut_or_else pass b = refl
cut_or_else (fault k p) b = refl

cut-first : (n : ℕ) (p : ℕ → Bool) (f : ℕ → Answer) → cut_answer (at_first n p f) ≡ at_first n p (λ i. cut_answer (f i))
cut-first n p f = go (ltb (first n p) n)
  where
    go : (b : Bool) → cut_answer (cond b (f (first n p)) pass) ≡ cond b (cut_answer (f (first n p))) pass
    go true = refl
    go false = refl

cut-signs : (rule : Rule) (ns : List ℤ) → cut_answer (sign_tests rule ns) ≡ sign_tests rule ns
cut-signs Plain ns = refl
cut-signs Drawable ns = cut-first (length ns) (is_negative ns) (λ v. fault 22 (Edge v))

-- the sums' tests, of sums that are cut off
module _ (K : ℕ) (n x : ℕ → ℤ) where
  abbrev y : ℕ → ℤ
  y v = clamp most (x v)

  zero_same : (v : ℕ) → not_zero y v ≡ not_zero x v
  zero_same v = ap not (sign_zero 999999999999 (x v))

  above_same : (v : ℕ) → lt_z (pos 0) (y v) ≡ lt_z (pos 0) (x v)
  above_same v = sign_above 999999999999 (x v)

  cut_balance : (rule : Rule) → balance_tests rule K n y ≡ cut_answer (balance_tests rule K n x)
  cut_balance Plain = at_first_cong K (not_zero y) (not_zero x) (λ v. fault 14 (EdgeSum v (y v))) (λ v. cut_answer (fault 14 (EdgeSum v (x v)))) (λ v _. zero_same v) (λ v _. refl)
      ∙ sym (cut-first K (not_zero x) (λ v. fault 14 (EdgeSum v (x v))))
  cut_balance Drawable =
      ap₂ ◌or_else◌
      (at_first_cong K (unbalanced n y) (unbalanced n x) (λ v. fault 14 (EdgeSum v (y v))) (λ v. cut_answer (fault 14 (EdgeSum v (x v)))) (λ v _. ap (λ b. lt_z (pos 0) (n v) && b) (zero_same v)) (λ v _. refl)
      ∙ sym (cut-first K (unbalanced n x) (λ v. fault 14 (EdgeSum v (x v)))))
      (at_first_cong K (pulled n y) (pulled n x) (λ v. fault 23 (EdgeSum v (y v))) (λ v. cut_answer (fault 23 (EdgeSum v (x v)))) (λ v _. ap (λ b. not (not_zero n v) && b) (above_same v)) (λ v _. refl)
      ∙ sym (cut-first K (pulled n x) (λ v. fault 23 (EdgeSum v (x v)))))
      ∙ sym (cut_or_else (at_first K (unbalanced n x) (λ v. fault 14 (EdgeSum v (x v)))) (at_first K (pulled n x) (λ v. fault 23 (EdgeSum v (x v)))))

-- ---- the lengths D and ms of a sheet, in digits
module _ (rule : Rule) (N : ℕ) (ds ps Ds : List ℕ) (ns : List ℤ) (D : ℕ) (ms : List ℤ)
    (d-is : long_denominator (length Ds) Ds ≡ D) (n-is : long_numerators (length Ds) (length ps) ns ≡ ms)
    (short : lengths_tests (length ps) D ms ≡ pass) (long : long_lengths_tests (length ps) Ds ns ≡ pass) where
  near : (v : ℕ) → v < length ps → nat_abs (long_numerator (length Ds) (length ps) ns v) ≤ 100000000000
  near v l = let p = →proper (length ps) D ms short in
      omega (arith, p.near v (omega (arith, p.whole)), ap nat_abs (ap (λ (x : List ℤ). entry_of x v) (sym n-is) ∙ get_or_table (length ps) (long_numerator (length Ds) (length ps) ns) (pos 0) v l))

  tops_are : tops_of (length Ds) (length ps) ns ≡ ms
  tops_are = table_cong (pos 0) (length ps) (λ v. clamp most (long_numerator (length Ds) (length ps) ns v)) (long_numerator (length Ds) (length ps) ns)
      (λ v l. clamp_in most (long_numerator (length Ds) (length ps) ns v) (omega (arith, near v l))) ∙ n-is

  pub same-answer-cut : long_proposal_tests rule N ds ps Ds ns ≡ cut_answer (proposal_tests rule N ds ps D ms)
  same-answer-cut = rw (short, long)
      (ap₂ ◌or_else◌ (ap (sign_tests rule) tops_are ∙ sym (cut-signs rule ms))
      (ap₂ (λ (t : List ℤ) (x : ℕ → ℤ). balance_tests rule (length ps) (entry_of t) (λ v. clamp most (x v))) tops_are (ap₂ (λ (d : ℕ) (l : List ℤ). edge_sum_of N ds ps d l) d-is n-is)
      ∙ cut_balance (length ps) (entry_of ms) (edge_sum_of N ds ps D ms) rule)
      ∙ sym (cut_or_else (sign_tests rule ms) (sums_tests rule N ds ps D ms)))

  -- so the number is the same
  pub same_number : number (long_proposal_tests rule N ds ps Ds ns) ≡ number (proposal_tests rule N ds ps D ms)
  same_number = ap number same-answer-cut ∙ kept (proposal_tests rule N ds ps D ms)
    where
      kept : (a : Answer) → number (cut_answer a) ≡ number a
      kept pass = refl
      kept (fault k p) = refl
