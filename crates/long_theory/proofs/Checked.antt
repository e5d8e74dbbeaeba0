-- The tests of long lengths by themselves all pass exactly where they are proper.
use mathlib.Core.Path.{◌≡◌, refl, sym, ◌∙◌, ap}
use mathlib.Core.Bool.{Bool, true, false, not, ◌||◌, ◌&&◌}
use mathlib.Core.List.{List}
use mathlib.Core.Logic.{◌⊎◌, inl, inr}
use Prim.Native.Nat.{ℕ, zero, suc, ◌+◌, ◌*◌, ◌-◌, ◌≤◌, ◌<◌}
use native.Mathlib.Omega.{arith}
use borrow.Author.Tests.{le-ltb, ltb-false, eqb-true, eqb-false, not-false}
use lib.Dec.{eqb, ltb}
use lib.IntN.{ℤ, pos, nat_abs}
use lib.ListN.{length, get_or, get_or-eq_default}
use lib.Signed.{lt_z}
use Rattle.exact.specs.Order.{◌≤ᶻ◌}
use Rattle.exact.specs.Table.{entry_of}
use Rattle.exact.proofs.Decide.{eq_yes, eq_no}
use Rattle.exact.proofs.Sign.{lt_or_ge}
use Rattle.long_digits.specs.Digits.{base}
use Rattle.verdict.specs.Answer.{pass, fault, test, at_first, ◌or_else◌}
use Rattle.verdict.specs.Table.{some}
use Rattle.verdict.specs.declared.Place.TheVariants.{Edge}
use Rattle.verdict.proofs.Answers.{or_else_pass, pass_or_else, test-pass, pass-test, first-pass, at_none, refuses, or_none, none_or}
use Rattle.verdict.proofs.Table.{some-no, some-none}
use Rattle.tree_theory.specs.Limits.{max_edges}
use Rattle.fit_theory.proofs.Zeros.{less-no, no_less}
use Rattle.long_theory.specs.Long.{max_levels, max_length, digit_of, long_denominator, long_numerator, OneSign, LongProper}
use Rattle.long_theory.specs.Tests.{long_edges_out, long_denominator_out, digits_out, long_numerator_out, long_lengths_tests}

-- a place of a table of L levels of K digits is a level and an edge
record Where (L K i : ℕ) : Type 0 where
  level : ℕ
  edge : ℕ
  inside : level < L
  of : edge < K
  here : level * K + edge ≡ i

where_is : (L K i : ℕ) → i < L * K → Where L K i
where_is zero K i h = absurd (omega arith)
where_is (suc L) K i h = let ih : i < L * K → Where L K i = where_is L K i in go (lt_or_ge i (L * K)) ih
  where
    go : (i < L * K) ⊎ (L * K ≤ i) → (i < L * K → Where L K i) → Where (suc L) K i
    go (inl l) ih = let w = ih l in record { level = w.level; edge = w.edge; inside = omega (arith, w.inside); of = w.of; here = w.here }
    go (inr l) ih = record { level = L; edge = i - L * K; inside = omega arith; of = omega arith; here = omega arith }

-- digits of both signs are none where one of the two tests finds none, and one of them finds none where they are none
one_of : (a b : Bool) → (a && b) ≡ false → (a ≡ false) ⊎ (b ≡ false)
one_of true b e = inr e
one_of false b e = inl refl

and_left : (a b : Bool) → a ≡ false → (a && b) ≡ false
and_left a b e = rw e

and_right : (a b : Bool) → b ≡ false → (a && b) ≡ false
and_right true b e = e
and_right false b e = refl

-- where 12 does not apply, every digit of D is one
pub denominator-digits : (Ds : List ℕ) → long_denominator_out Ds ≡ false → (k : ℕ) → get_or Ds k 0 < base
denominator-digits Ds e k = go (lt_or_ge k (length Ds))
  where
    small : some (length Ds) (λ j. ltb 999999 (get_or Ds j 0)) ≡ false
    small = (or_none (ltb max_levels (length Ds)) (some (length Ds) (λ j. ltb 999999 (get_or Ds j 0)))
        (or_none (ltb max_levels (length Ds) || some (length Ds) (λ j. ltb 999999 (get_or Ds j 0))) (eqb (long_denominator (length Ds) Ds) 0) e).0).1

    go : (k < length Ds) ⊎ (length Ds ≤ k) → get_or Ds k 0 < base
    go (inl l) = omega (arith, ltb-false 999999 (get_or Ds k 0) (some-none (length Ds) (λ j. ltb 999999 (get_or Ds j 0)) small k l))
    go (inr l) = omega (arith, get_or-eq_default Ds 0 l)

module _ (K : ℕ) (Ds : List ℕ) (ns : List ℤ) where
  abbrev L : ℕ
  L = length Ds

  abbrev far : ℕ → ℕ → Bool
  far v k = ltb 999999 (nat_abs (digit_of K ns k v))

  abbrev below : ℕ → ℕ → Bool
  below v k = lt_z (digit_of K ns k v) (pos 0)

  abbrev above : ℕ → ℕ → Bool
  above v k = lt_z (pos 0) (digit_of K ns k v)

  -- one sign, and no test finds the other
  apart : (v : ℕ) → OneSign L K ns v → (some L (below v) && some L (above v)) ≡ false
  apart v (inl h) = and_left (some L (below v)) (some L (above v)) (some-no L (below v) (λ k l. less-no (h k l)))
  apart v (inr h) = and_right (some L (below v)) (some L (above v)) (some-no L (above v) (λ k l. less-no (h k l)))

  one-sign : (v : ℕ) → (some L (below v) && some L (above v)) ≡ false → OneSign L K ns v
  one-sign v e = go (one_of (some L (below v)) (some L (above v)) e)
    where
      go : (some L (below v) ≡ false) ⊎ (some L (above v) ≡ false) → OneSign L K ns v
      go (inl q) = inl (λ k l. no_less (some-none L (below v) q k l))
      go (inr q) = inr (λ k l. no_less (some-none L (above v) q k l))

  pub proper→ : LongProper K Ds ns → long_lengths_tests K Ds ns ≡ pass
  proper→ p = pass_or_else
      (pass-test 11 (none_or (ap not (eq_yes p.whole)) (le-ltb max_edges K p.few)))
      (pass_or_else
      (pass-test 12 (none_or
      (none_or (le-ltb max_levels L p.most) (some-no L (λ k. ltb 999999 (get_or Ds k 0)) (λ k _. le-ltb 999999 (get_or Ds k 0) (omega (arith, p.digits k)))))
      (eq_no {a = long_denominator L Ds} {b = 0} (λ e. absurd (omega (arith, e, p.one))))))
      (at_none K (long_numerator_out K Ds ns) (λ v. fault 13 (Edge v)) (some-no K (long_numerator_out K Ds ns) (λ v l. none_or (in_digits v l) (le-ltb (max_length * long_denominator L Ds) (nat_abs (long_numerator L K ns v)) (p.near v l))))))
    where
      in_digits : (v : ℕ) → v < K → digits_out L K ns v ≡ false
      in_digits v l = none_or (some-no L (far v) (λ k _. le-ltb 999999 (nat_abs (digit_of K ns k v)) (omega (arith, p.tops (k * K + v))))) (apart v (p.signs v l))

  pub →proper : long_lengths_tests K Ds ns ≡ pass → LongProper K Ds ns
  →proper e =
      let (e11, r) = or_else_pass (test 11 (long_edges_out K L ns)) (test 12 (long_denominator_out Ds) or_else at_first K (long_numerator_out K Ds ns) (λ v. fault 13 (Edge v))) e in
      let (e12, e13) = or_else_pass (test 12 (long_denominator_out Ds)) (at_first K (long_numerator_out K Ds ns) (λ v. fault 13 (Edge v))) r in
      let (same, few) = or_none (not (eqb (length ns) (L * K))) (ltb max_edges K) (test-pass 11 (long_edges_out K L ns) e11) in
      let (q, some-D) = or_none (ltb max_levels L || some L (λ k. ltb 999999 (get_or Ds k 0))) (eqb (long_denominator L Ds) 0) (test-pass 12 (long_denominator_out Ds) e12) in
      let (most, _) = or_none (ltb max_levels L) (some L (λ k. ltb 999999 (get_or Ds k 0))) q in
      let whole = eqb-true (length ns) (L * K) (not-false (eqb (length ns) (L * K)) same) in
      let none : (v : ℕ) → v < K → long_numerator_out K Ds ns v ≡ false = some-none K (long_numerator_out K Ds ns) (first-pass K (long_numerator_out K Ds ns) (λ v. fault 13 (Edge v)) (λ v. refuses 13 (Edge v)) e13) in
      record {
        few = ltb-false max_edges K few;
        whole = whole;
        most = ltb-false max_levels L most;
        digits = denominator-digits Ds (test-pass 12 (long_denominator_out Ds) e12);
        one = some_one (long_denominator L Ds) (eqb-false (long_denominator L Ds) 0 some-D);
        tops = λ i. in_table whole none i (lt_or_ge i (L * K));
        signs = λ v l. one-sign v (digits v (none v l)).1;
        near = λ v l. ltb-false (max_length * long_denominator L Ds) (nat_abs (long_numerator L K ns v)) (or_none (digits_out L K ns v) (ltb (max_length * long_denominator L Ds) (nat_abs (long_numerator L K ns v))) (none v l)).1;
      }
    where
      digits : (v : ℕ) → long_numerator_out K Ds ns v ≡ false → (some L (far v) ≡ false) × ((some L (below v) && some L (above v)) ≡ false)
      digits v q = or_none (some L (far v)) (some L (below v) && some L (above v))
          (or_none (digits_out L K ns v) (ltb (max_length * long_denominator L Ds) (nat_abs (long_numerator L K ns v))) q).0

      some_one : (D : ℕ) → (D ≡ 0 → ⊥) → 1 ≤ D
      some_one zero h = absurd (h refl)
      some_one (suc D) h = omega arith

      in_table : length ns ≡ L * K → ((v : ℕ) → v < K → long_numerator_out K Ds ns v ≡ false) → (i : ℕ) → (i < L * K) ⊎ (L * K ≤ i) → nat_abs (entry_of ns i) < base
      in_table whole none i (inl l) = let w = where_is L K i l in
          omega (arith, ap (λ (j : ℕ). nat_abs (entry_of ns j)) w.here, ltb-false 999999 (nat_abs (digit_of K ns w.level w.edge)) (some-none L (far w.edge) (digits w.edge (none w.edge w.of)).0 w.level w.inside))
      in_table whole none i (inr l) = omega (arith, ap nat_abs (get_or-eq_default ns (pos 0) {n = i} (omega (arith, whole))))
