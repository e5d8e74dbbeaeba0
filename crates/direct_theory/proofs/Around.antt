-- About an edge of a resolved tree: its neighbours are edges, and each of the sets of strains there has 1 to 64.
use mathlib.Core.Path.{◌≡◌, refl, sym, ◌∙◌, ap, subst}
use mathlib.Core.Bool.{Bool}
use Prim.Native.Nat.{ℕ, ◌+◌, ◌*◌, ◌^◌, ◌≤◌, ◌<◌}
use native.Mathlib.Omega.{arith}
use lib.IntN.{ℤ, pos, nat_abs}
use mir.Syntax.{w64}
use mir.Val.{SFits}
use Rattle.exact.specs.Order.{◌≤ᶻ◌}
use Rattle.exact.proofs.Order.{≤-pos}
use Rattle.exact.proofs.Sign.{fits_abs}
use Rattle.verdict.specs.Table.{count}
use Rattle.verdict.proofs.Table.{count-le}
use Rattle.tree_theory.specs.Allowed.{Allowed}
use Rattle.exact.specs.Fraction.{◌over◌, Lowest}
use Rattle.direct_theory.specs.Children.{child_of, sibling, farther, Resolved}
use Rattle.direct_theory.specs.Averages.{strains_below, neither, size}
use Rattle.direct_theory.specs.Splits.{outer_top, outer_bottom, inner_top, inner_bottom, Sized, outer_by, inner_by}
use Rattle.direct_theory.proofs.Children.{child₀, child₁, sibling-is, farther-is}
use Rattle.direct_theory.proofs.Sizes.{size-count, cluster-least, neither-least}
use Rattle.direct_theory.proofs.Steps.{sized_abs}

pub sized-fits : (a : ℤ) → Sized a → SFits w64 a
sized-fits a s = fits_abs a (omega (arith, sized_abs a s))

pub sum_fits : (z : ℤ) → nat_abs z ≤ 51200000 → SFits w64 z
sum_fits z h = fits_abs z (omega (arith, h))

sized : (N : ℕ) (A : ℕ → Bool) → N ≤ 64 → pos 1 ≤ᶻ size N A → Sized (size N A)
sized N A h some = record {
  count = count N A;
  is = size-count N A;
  some = ≤-pos (subst (λ z. pos 1 ≤ᶻ z) (size-count N A) some);
  few = omega (arith, count-le N A);
}

module _ (N K : ℕ) (par : ℕ → ℕ) (ok : Allowed N K par) (res : Resolved N K par) where
  pub few-edges : K ≤ 125
  few-edges = omega (arith, ok.few, ok.most)

  pub sized-cluster : (v : ℕ) → v ≤ K → Sized (size N (strains_below par v))
  sized-cluster v h = sized N (strains_below par v) ok.few (cluster-least N K par ok res v h)

  pub sized-neither : (c : ℕ) → c < K → Sized (size N (neither par c (sibling K par c)))
  sized-neither c l = sized N (neither par c (sibling K par c)) ok.few (neither-least N K par ok res c l)

  pub sibling-edge : (c : ℕ) → c < K → sibling K par c < K
  sibling-edge c l = (sibling-is N K par ok res c l).edge

  pub farther-edge : (c : ℕ) → c < K → farther K par c < K
  farther-edge c l = (farther-is N K par ok res c l).edge

  pub first_edge : (c : ℕ) → N ≤ c → c < K → child_of K par c 0 < K
  first_edge c h l = (child₀ N K par ok res c h (omega arith)).edge

  pub second-edge : (c : ℕ) → N ≤ c → c < K → child_of K par c 1 < K
  second-edge c h l = (child₁ N K par ok res c h (omega arith)).edge

-- the formulas at what the code read
pub outer-at : (N K : ℕ) (par : ℕ → ℕ) (σ : ℕ → ℤ) (c : ℕ) (a b t u v num : ℤ) (den : ℕ)
    → a ≡ size N (strains_below par (sibling K par c)) → b ≡ size N (neither par c (sibling K par c)) → t ≡ σ c → u ≡ σ (sibling K par c) → v ≡ σ (farther K par c)
    → Lowest (outer_top a b t u v over outer_bottom a b) num den → Lowest (outer_by N K par σ c) num den
outer-at N K par σ c a b t u v num den e₁ e₂ e₃ e₄ e₅ h = rw (← e₁, ← e₂, ← e₃, ← e₄, ← e₅) h

pub inner-at : (N K : ℕ) (par : ℕ → ℕ) (σ : ℕ → ℤ) (c : ℕ) (a b l m t u v x y num : ℤ) (den : ℕ)
    → a ≡ size N (strains_below par (child_of K par c 0)) → b ≡ size N (strains_below par (child_of K par c 1)) → l ≡ size N (strains_below par (sibling K par c)) → m ≡ size N (neither par c (sibling K par c))
    → t ≡ σ c → u ≡ σ (child_of K par c 0) → v ≡ σ (child_of K par c 1) → x ≡ σ (sibling K par c) → y ≡ σ (farther K par c)
    → Lowest (inner_top a b l m t u v x y over inner_bottom a b l m) num den → Lowest (inner_by N K par σ c) num den
inner-at N K par σ c a b l m t u v x y num den e₁ e₂ e₃ e₄ e₅ e₆ e₇ e₈ e₉ h = rw (← e₁, ← e₂, ← e₃, ← e₄, ← e₅, ← e₆, ← e₇, ← e₈, ← e₉) h
