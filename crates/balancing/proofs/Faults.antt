-- The answers that a loop over the edges' sums gives: `found` at the lowest edge at fault, `none_found` where none is; `same-sums`.
use mathlib.Core.Path.{◌≡◌, sym, ◌∙◌, ap, ap₂}
use mathlib.Core.Bool.{Bool, true, false}
use lib.IntN.{ℤ}
use Prim.Native.Nat.{ℕ, ◌<◌}
use Rattle.verdict.specs.declared.Place.TheVariants.{EdgeSum}
use Rattle.verdict.specs.Answer.{Answer, pass, fault, at_first, ◌or_else◌}
use Rattle.verdict.specs.declared.Rule.{Rule}
use Rattle.verdict.specs.declared.Rule.TheVariants.{Plain, Drawable}
use Rattle.verdict.proofs.Answers.{at_first_lem, at_none, at_first_cong}
use Rattle.verdict.proofs.Table.{first-is, some-no}
use Rattle.fit_theory.specs.Tests.{balance_tests}
use Rattle.balancing.specs.declared.Pass.{Pass}
use Rattle.balancing.specs.declared.Pass.TheVariants.{All, Positive, Zero}
use Rattle.balancing.specs.Passes.{fault_by, number_by, pass_tests}

module _ (q : Pass) (K : ℕ) (n x : ℕ → ℤ) where
  abbrev at : ℕ → Bool
  at v = fault_by q (n v) (x v)

  abbrev told : ℕ → Answer
  told v = fault (number_by q) (EdgeSum v (x v))

  pub found : (v k : ℕ) (z : ℤ) → k ≡ number_by q → z ≡ x v → v < K → at v ≡ true → ((i : ℕ) → i < v → at i ≡ false) → fault k (EdgeSum v z) ≡ pass_tests q K n x
  found v k z e f l t h = ap₂ (λ (a : ℕ) (y : ℤ). fault a (EdgeSum v y)) e f ∙ sym (at_first_lem K at told v l (first-is K at v l t h))

  pub none_found : ((i : ℕ) → i < K → at i ≡ false) → pass ≡ pass_tests q K n x
  none_found h = sym (at_none K at told (some-no K at h))

-- tables of the same sums get the same answer
same-pass : (q : Pass) (K : ℕ) (n x y : ℕ → ℤ) → ((v : ℕ) → v < K → x v ≡ y v) → pass_tests q K n x ≡ pass_tests q K n y
same-pass q K n x y e = at_first_cong K (λ v. fault_by q (n v) (x v)) (λ v. fault_by q (n v) (y v)) (λ v. fault (number_by q) (EdgeSum v (x v))) (λ v. fault (number_by q) (EdgeSum v (y v)))
    (λ v l. ap (fault_by q (n v)) (e v l)) (λ v l. ap (λ (z : ℤ). fault (number_by q) (EdgeSum v z)) (e v l))

pub same-sums : (rule : Rule) (K : ℕ) (n x y : ℕ → ℤ) → ((v : ℕ) → v < K → x v ≡ y v) → balance_tests rule K n x ≡ balance_tests rule K n y
same-sums Plain K n x y e = same-pass All K n x y e
same-sums Drawable K n x y e = ap₂ ◌or_else◌ (same-pass Positive K n x y e) (same-pass Zero K n x y e)
