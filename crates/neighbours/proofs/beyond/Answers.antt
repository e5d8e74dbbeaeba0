-- All strains less those below c and those below its sibling.
use mathlib.Core.Path.{◌≡◌, sym, ◌∙◌, ap₂, subst}
use Prim.Native.Nat.{ℕ, ◌≤◌}
use native.Mathlib.Omega.{arith}
use lib.IntN.{pos, ◌-ℤ◌, nat_abs}
use lib.ListN.{length}
use mir.Syntax.{w64}
use mir.Val.{SFits, to_z}
use mir.Facts.{to_z-of_z}
use Rattle.exact.proofs.Sign.{back-pos, fits_abs, nat_abs_sub}
use Rattle.tree_theory.specs.Chain.{parent_of}
use Rattle.direct_theory.specs.Splits.{Sized}
use Rattle.direct_theory.proofs.Children.{Sibling, sibling-is}
use Rattle.direct_theory.proofs.Sizes.{size-neither}
use Rattle.direct_theory.proofs.Steps.{sized_abs}
use Rattle.direct_theory.proofs.Around.{sized-cluster, sized-fits}
use Rattle.neighbours.proofs.beyond.Goals as goal
use Rattle.neighbours.proofs.beyond.Goals.{After-strains-beside, Start}

module _ (p : Start) where
  abbrev par : ℕ → ℕ
  par = parent_of p.args.parents.now

  abbrev edges : ℕ
  edges = length p.args.parents.now

  beside : Sibling edges par p.args.c p.args.s
  beside = subst (λ z. Sibling edges par p.args.c z) (sym p.requires.c_in_bounds.1) (sibling-is p.args.n edges par p.requires.standing.allowed p.requires.resolved p.args.c p.requires.c_in_bounds.0)

module _ (c : After-strains-beside) where
  abbrev p : Start
  p = c.before.before.before.before

  sized₁ : Sized c.strains-near.result
  sized₁ = subst Sized (sym c.strains-near.ensures) (sized-cluster p.args.n (edges p) (par p) p.requires.standing.allowed p.requires.resolved p.args.c (omega (arith, p.requires.c_in_bounds.0)))

  sized₂ : Sized c.strains-beside.result
  sized₂ = subst Sized (sym c.strains-beside.ensures) (sized-cluster p.args.n (edges p) (par p) p.requires.standing.allowed p.requires.resolved p.args.s (omega (arith, (beside p).edge)))

  whole : to_z w64 p.args.n ≡ pos p.args.n
  whole = back-pos p.args.n (omega (arith, p.requires.standing.allowed.few))

  once : nat_abs (pos p.args.n -ℤ c.strains-near.result) ≤ 128
  once = omega (arith, nat_abs_sub (pos p.args.n) c.strains-near.result, p.requires.standing.allowed.few, sized_abs c.strains-near.result sized₁)

  fits₁ : SFits w64 (pos p.args.n -ℤ c.strains-near.result)
  fits₁ = fits_abs (pos p.args.n -ℤ c.strains-near.result) (omega (arith, once))

  fits₂ : SFits w64 (pos p.args.n -ℤ c.strains-near.result -ℤ c.strains-beside.result)
  fits₂ = fits_abs (pos p.args.n -ℤ c.strains-near.result -ℤ c.strains-beside.result)
      (omega (arith, once, nat_abs_sub (pos p.args.n -ℤ c.strains-near.result) c.strains-beside.result, sized_abs c.strains-beside.result sized₂))

pub strains-beside-requires : goal.strains-beside-requires
strains-beside-requires c = record {
  standing = c.requires.standing;
  v_in_bounds = omega (arith, (beside c.before.before.before).edge);
}

pub overflow_sub-result : goal.overflow_sub-result
overflow_sub-result c = simp (whole c, to_z-of_z (sized-fits c.strains-near.result (sized₁ c))) (fits₁ c)

pub overflow_sub-result-2 : goal.overflow_sub-result-2
overflow_sub-result-2 c = simp (whole c, to_z-of_z (sized-fits c.strains-near.result (sized₁ c)), to_z-of_z (sized-fits c.strains-beside.result (sized₂ c)), to_z-of_z (fits₁ c)) (fits₂ c)

pub returns : goal.returns
returns c = simp (whole c, to_z-of_z (sized-fits c.strains-near.result (sized₁ c)), to_z-of_z (sized-fits c.strains-beside.result (sized₂ c)), to_z-of_z (fits₁ c), to_z-of_z (fits₂ c))
    (ap₂ (λ x y. pos (p c).args.n -ℤ x -ℤ y) c.strains-near.ensures c.strains-beside.ensures
    ∙ sym (size-neither (p c).args.n (par (p c)) (edges (p c)) (p c).requires.standing.allowed.up (p c).args.c (p c).args.s (p c).requires.c_in_bounds.0 (beside (p c))))
