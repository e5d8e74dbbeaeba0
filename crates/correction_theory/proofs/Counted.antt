-- An edge parts no measured pair exactly where its count is zero (`unseen-counts`): no pair counts less than 0, and one that is
-- measured and parted counts 1. So 26 can be read off the counts.
use mathlib.Core.Path.{◌≡◌, refl, sym, ◌∙◌, ap, subst}
use mathlib.Core.Bool.{Bool, true, false}
use mathlib.Core.List.{List}
use Prim.Native.Nat.{ℕ, ◌<◌}
use native.Mathlib.Decide.{ℕ_discrete}
use native.Mathlib.Omega.{arith}
use borrow.Author.Tests.{not-true}
use lib.Dec.{eqb}
use lib.IntN.{ℤ, pos, nat_abs, ◌*ℤ◌, zero-*ℤ, *ℤ-zero}
use lib.Signed.{≤ℤ_refl}
use Rattle.exact.specs.Order.{◌≤ᶻ◌}
use Rattle.exact.specs.Sum.{ind}
use Rattle.exact.proofs.Decide.{by_cases, eq_yes, eq_no}
use Rattle.exact.proofs.Order.{≤-pos}
use Rattle.exact.proofs.Sum.{pairs_cong, pairs-one, pairs-sums, S-zero, S-mono, ind-yes, ind-no, ind-nn}
use Rattle.verdict.specs.Table.{some}
use Rattle.verdict.proofs.Table.{some-none}
use Rattle.fit_theory.specs.Quantities.{parts_in}
use Rattle.fit_theory.specs.Stands.{Seen}
use Rattle.fit_theory.specs.Tests.{unseen}
use Rattle.fit_theory.proofs.Exactly.{→seen}
use Rattle.fit_theory.proofs.Zeros.{abs_zero}
use Rattle.correction_theory.specs.Kept.{split_count}

module _ (N : ℕ) (ds ps : List ℕ) (v : ℕ) where
  none-counts : unseen N ds ps v ≡ true → split_count N ds ps v ≡ pos 0
  none-counts e =
      pairs_cong N (λ p h k. ind-no (some-none p.1 (λ i. parts_in ds ps v (i, p.1)) (some-none N (λ j. some j (λ i. parts_in ds ps v (i, j))) (not-true (some N (λ j. some j (λ i. parts_in ds ps v (i, j)))) e) p.1 k) p.0 h))
      ∙ S-zero (pairs-sums N)

  seen-counts : Seen N ds ps v → pos 1 ≤ᶻ split_count N ds ps v
  seen-counts s = subst (λ (y : ℤ). y ≤ᶻ split_count N ds ps v)
      (pairs-one N s.i s.j here s.rising s.strain off ∙ at)
      (S-mono (pairs-sums N) here (λ p. ind (parts_in ds ps v p)) less)
    where
      here : ℕ × ℕ → ℤ
      here p = ind (eqb p.0 s.i) *ℤ ind (eqb p.1 s.j)

      off : (i j : ℕ) → i < j → j < N → ((i ≡ s.i) × (j ≡ s.j) → ⊥) → here (i, j) ≡ pos 0
      off i j _ _ e = by_cases (ℕ_discrete i s.i)
          (λ q. ap (λ (y : ℤ). ind (eqb i s.i) *ℤ y) (ind-no (eq_no {a = j} {b = s.j} (λ r. e (q, r)))) ∙ *ℤ-zero (ind (eqb i s.i)))
          (λ q. ap (λ (y : ℤ). y *ℤ ind (eqb j s.j)) (ind-no (eq_no q)) ∙ zero-*ℤ (ind (eqb j s.j)))

      at : here (s.i, s.j) ≡ pos 1
      at = rw (ind-yes (eq_yes {a = s.i} {b = s.i} refl), ind-yes (eq_yes {a = s.j} {b = s.j} refl))

      less : (p : ℕ × ℕ) → here p ≤ᶻ ind (parts_in ds ps v p)
      less p = by_cases (ℕ_discrete p.0 s.i)
          (λ q. by_cases (ℕ_discrete p.1 s.j)
          (λ r. subst (λ (y : ℤ). here p ≤ᶻ y) (sym (ind-yes (subst (λ (b : ℕ). parts_in ds ps v (p.0, b) ≡ true) (sym r) (subst (λ (a : ℕ). parts_in ds ps v (a, s.j) ≡ true) (sym q) s.parted))))
          (subst (λ (y : ℤ). y ≤ᶻ pos 1) (sym (one q r)) (nn-one)))
          (λ r. subst (λ (y : ℤ). y ≤ᶻ ind (parts_in ds ps v p)) (sym (ap (λ (y : ℤ). ind (eqb p.0 s.i) *ℤ y) (ind-no (eq_no r)) ∙ *ℤ-zero (ind (eqb p.0 s.i)))) (ind-nn (parts_in ds ps v p))))
          (λ q. subst (λ (y : ℤ). y ≤ᶻ ind (parts_in ds ps v p)) (sym (ap (λ (y : ℤ). y *ℤ ind (eqb p.1 s.j)) (ind-no (eq_no q)) ∙ zero-*ℤ (ind (eqb p.1 s.j)))) (ind-nn (parts_in ds ps v p)))
        where
          one : p.0 ≡ s.i → p.1 ≡ s.j → here p ≡ pos 1
          one q r = rw (ind-yes (eq_yes q), ind-yes (eq_yes r))

          nn-one : pos 1 ≤ᶻ pos 1
          nn-one = ≤ℤ_refl (pos 1)

  pub unseen-counts : unseen N ds ps v ≡ eqb (nat_abs (split_count N ds ps v)) 0
  unseen-counts = go (unseen N ds ps v) refl
    where
      go : (b : Bool) → unseen N ds ps v ≡ b → unseen N ds ps v ≡ eqb (nat_abs (split_count N ds ps v)) 0
      go true e = e ∙ sym (eq_yes (ap nat_abs (none-counts e)))
      go false e = e ∙ sym (eq_no (λ (z : nat_abs (split_count N ds ps v) ≡ 0). let l : 1 < 1 = omega (arith, ≤-pos {m = 1} {n = 0} (subst (λ (y : ℤ). pos 1 ≤ᶻ y) (abs_zero (split_count N ds ps v) z) (seen-counts (→seen N ds ps v e)))) in omega arith))
