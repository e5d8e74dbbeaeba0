-- RULES, Long sheets, both ways: long lengths pass exactly where they stand. `→long_fit`, `long_fit→`: the tests of the numbers cut off pass exactly where
-- those of the numbers do. `long_stands→`: what stands passes. `→long_stands`: what passes stands.
use mathlib.Core.Path.{◌≡◌, refl, sym, ◌∙◌, ap, ap₂}
use mathlib.Core.Bool.{Bool, not, ◌&&◌}
use mathlib.Core.List.{List}
use Prim.Native.Nat.{ℕ, ◌<◌}
use native.Mathlib.Omega.{arith}
use lib.Dec.{eqb}
use lib.IntN.{ℤ, pos, nat_abs}
use lib.ListN.{length}
use lib.Signed.{lt_z}
use Rattle.exact.specs.Table.{table, entry_of}
use Rattle.exact.proofs.Fill.{length-table, get_or_table}
use Rattle.long_digits.specs.Clamp.{clamp, most}
use Rattle.long_digits.proofs.Clamps.{sign_zero, sign_above, sign_below}
use Rattle.verdict.specs.declared.Place.{Place}
use Rattle.verdict.specs.Answer.{pass, fault, at_first, ◌or_else◌}
use Rattle.verdict.specs.declared.Place.TheVariants.{Edge, EdgeSum}
use Rattle.verdict.specs.declared.Rule.{Rule}
use Rattle.verdict.specs.declared.Rule.TheVariants.{Plain, Drawable}
use Rattle.verdict.proofs.Answers.{or_else_pass, pass_or_else, first-pass, at_none, refuses}
use Rattle.verdict.proofs.Table.{some_cong}
use Rattle.lengths.specs.Tests.{is_negative, sign_tests}
use Rattle.fit_theory.specs.Tests.{posted_tests, not_zero, is_positive, unbalanced, pulled, balance_tests, sums_tests}
use Rattle.fit_theory.specs.Quantities.{edge_sum_of}
use Rattle.fit_theory.specs.Stands.{Posted, FitBy}
use Rattle.fit_theory.proofs.Exactly.{posted→, →posted, fit→, →fit}
use Rattle.long_theory.specs.Long.{long_denominator, long_numerator, long_numerators, LongStands}
use Rattle.long_theory.specs.Tests.{long_lengths_tests, tops_of, long_sum_of, long_sums_tests, long_fit_tests, long_proposal_tests, long_tests}
use Rattle.long_theory.proofs.Checked.{proper→, →proper}

-- two rows of tests that agree pass alike, whatever their refusals say
alike : (n : ℕ) (p q : ℕ → Bool) (k : ℕ) (f g : ℕ → Place) → ((i : ℕ) → i < n → p i ≡ q i)
    → at_first n p (λ i. fault k (f i)) ≡ pass → at_first n q (λ i. fault k (g i)) ≡ pass
alike n p q k f g h e = at_none n q (λ i. fault k (g i)) (sym (some_cong n p q h) ∙ first-pass n p (λ i. fault k (f i)) (λ i. refuses k (f i)) e)

-- numbers m and y of the same signs as n and x below K
module _ (K : ℕ) (n m x y : ℕ → ℤ)
    (top : (v : ℕ) → v < K → (not_zero m v ≡ not_zero n v) × (is_positive m v ≡ is_positive n v))
    (sum : (v : ℕ) → v < K → (not_zero y v ≡ not_zero x v) × (is_positive y v ≡ is_positive x v)) where
  same-unbalanced : (v : ℕ) → v < K → unbalanced m y v ≡ unbalanced n x v
  same-unbalanced v l = ap₂ ◌&&◌ (top v l).1 (sum v l).0

  same-pulled : (v : ℕ) → v < K → pulled m y v ≡ pulled n x v
  same-pulled v l = ap₂ (λ (a b : Bool). not a && b) (top v l).0 (sum v l).1

  pub balance_alike : (rule : Rule) → balance_tests rule K m y ≡ pass → balance_tests rule K n x ≡ pass
  balance_alike Plain e = alike K (not_zero y) (not_zero x) 14 (λ v. EdgeSum v (y v)) (λ v. EdgeSum v (x v)) (λ v l. (sum v l).0) e
  balance_alike Drawable e =
      let (e1, e2) = or_else_pass (at_first K (unbalanced m y) (λ v. fault 14 (EdgeSum v (y v)))) (at_first K (pulled m y) (λ v. fault 23 (EdgeSum v (y v)))) e in
      pass_or_else (alike K (unbalanced m y) (unbalanced n x) 14 (λ v. EdgeSum v (y v)) (λ v. EdgeSum v (x v)) same-unbalanced e1)
      (alike K (pulled m y) (pulled n x) 23 (λ v. EdgeSum v (y v)) (λ v. EdgeSum v (x v)) same-pulled e2)

module _ (rule : Rule) (N : ℕ) (ds ps Ds : List ℕ) (ns : List ℤ) where
  abbrev K : ℕ
  K = length ps

  abbrev L : ℕ
  L = length Ds

  abbrev D : ℕ
  D = long_denominator L Ds

  abbrev n : ℕ → ℤ
  n = entry_of (long_numerators L K ns)

  abbrev m : ℕ → ℤ
  m = entry_of (tops_of L K ns)

  abbrev x : ℕ → ℤ
  x = edge_sum_of N ds ps D (long_numerators L K ns)

  m-is : (v : ℕ) → v < K → m v ≡ clamp most (n v)
  m-is v l = get_or_table K (λ u. clamp most (long_numerator L K ns u)) (pos 0) v l ∙ ap (clamp most) (sym (get_or_table K (long_numerator L K ns) (pos 0) v l))

  zeros : (z : ℤ) → not (eqb (nat_abs (clamp most z)) 0) ≡ not (eqb (nat_abs z) 0)
  zeros z = ap not (sign_zero 999999999999 z)

  top : (v : ℕ) → v < K → (not_zero m v ≡ not_zero n v) × (is_positive m v ≡ is_positive n v)
  top v l = (ap (λ (z : ℤ). not (eqb (nat_abs z) 0)) (m-is v l) ∙ zeros (n v), ap (λ (z : ℤ). lt_z (pos 0) z) (m-is v l) ∙ sign_above 999999999999 (n v))

  sum : (v : ℕ) → v < K → (not_zero (long_sum_of N ds ps Ds ns) v ≡ not_zero x v) × (is_positive (long_sum_of N ds ps Ds ns) v ≡ is_positive x v)
  sum v l = (zeros (x v), sign_above 999999999999 (x v))

  below : (v : ℕ) → v < K → is_negative (tops_of L K ns) v ≡ is_negative (long_numerators L K ns) v
  below v l = ap (λ (z : ℤ). lt_z z (pos 0)) (m-is v l) ∙ sign_below 999999999999 (n v)

  pub →sums : long_sums_tests rule N ds ps Ds ns ≡ pass → sums_tests rule N ds ps D (long_numerators L K ns) ≡ pass
  →sums e = balance_alike K n m x (long_sum_of N ds ps Ds ns) top sum rule e

  pub sums→ : sums_tests rule N ds ps D (long_numerators L K ns) ≡ pass → long_sums_tests rule N ds ps Ds ns ≡ pass
  sums→ e = balance_alike K m n (long_sum_of N ds ps Ds ns) x (λ v l. (sym (top v l).0, sym (top v l).1)) (λ v l. (sym (sum v l).0, sym (sum v l).1)) rule e

  long : length (long_numerators L K ns) ≡ K
  long = length-table K (long_numerator L K ns)

  tops-long : length (tops_of L K ns) ≡ K
  tops-long = length-table K (λ v. clamp most (long_numerator L K ns v))

  pub →signs : (r : Rule) → sign_tests r (tops_of L K ns) ≡ pass → sign_tests r (long_numerators L K ns) ≡ pass
  →signs Plain e = refl
  →signs Drawable e = rw long (alike K (is_negative (tops_of L K ns)) (is_negative (long_numerators L K ns)) 22 Edge Edge below (rw tops-long at e))

  pub signs→ : (r : Rule) → sign_tests r (long_numerators L K ns) ≡ pass → sign_tests r (tops_of L K ns) ≡ pass
  signs→ Plain e = refl
  signs→ Drawable e = rw tops-long (alike K (is_negative (long_numerators L K ns)) (is_negative (tops_of L K ns)) 22 Edge Edge (λ v l. sym (below v l)) (rw long at e))

  -- long lengths that pass these tests are the fit, and the other way round
  pub →long_fit : long_fit_tests rule N ds ps Ds ns ≡ pass → FitBy rule N ds ps D (long_numerators L K ns)
  →long_fit e = let (e1, e2) = or_else_pass (sign_tests rule (tops_of L K ns)) (long_sums_tests rule N ds ps Ds ns) e in
      →fit N ds ps D (long_numerators L K ns) long rule (→signs rule e1) (→sums e2)

  pub long_fit→ : FitBy rule N ds ps D (long_numerators L K ns) → long_fit_tests rule N ds ps Ds ns ≡ pass
  long_fit→ h = let (e1, e2) = fit→ N ds ps D (long_numerators L K ns) long rule h in pass_or_else (signs→ rule e1) (sums→ e2)

  pub long_stands→ : LongStands rule N ds ps Ds ns → long_tests rule N ds ps Ds ns ≡ pass
  long_stands→ s = pass_or_else (posted→ N ds ps s.fitted.posted) (pass_or_else (proper→ K Ds ns s.lengths) (long_fit→ s.fitted.fit))

  -- what passes beside a matrix and a tree that pass stands
  pub long-proposal-stands : Posted N ds ps → long_proposal_tests rule N ds ps Ds ns ≡ pass → LongStands rule N ds ps Ds ns
  long-proposal-stands p e =
      let (e1, e2) = or_else_pass (long_lengths_tests K Ds ns) (long_fit_tests rule N ds ps Ds ns) e in
      let l = →proper K Ds ns e1 in
      record { lengths = l; fitted = record { posted = p; whole = long; one = l.one; fit = →long_fit e2 } }

  pub →long_stands : long_tests rule N ds ps Ds ns ≡ pass → LongStands rule N ds ps Ds ns
  →long_stands e = let (e1, e2) = or_else_pass (posted_tests N ds ps) (long_proposal_tests rule N ds ps Ds ns) e in long-proposal-stands (→posted N ds ps e1) e2
