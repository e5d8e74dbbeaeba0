-- Every step fits, so the code's numerator and denominator are the formula's; `lowest` reduces them.
use mathlib.Core.Path.{◌≡◌, sym, ◌∙◌, ap, ap₂, subst, subst₂}
use Prim.Native.Nat.{◌≤◌}
use native.Mathlib.Omega.{arith}
use lib.Dec.{T}
use lib.IntN.{ℤ, pos, ◌+ℤ◌, ◌-ℤ◌, ◌*ℤ◌, nat_abs}
use lib.Signed.{non_neg}
use mir.Syntax.{w64}
use mir.Val.{Fits, SFits, to_z, of_z}
use mir.Facts.{to_z-of_z}
use Rattle.exact.specs.Fraction.{◌over◌, Lowest}
use Rattle.direct_theory.specs.Splits.{twice, outer_top}
use Rattle.direct_theory.proofs.Steps.{Whole, twice-fits, outer-near, outer-far, outer-both, outer-small, outer-whole, outer-bottom, outer-ab, whole-fits, whole_non_neg, whole-some, whole_abs, whole_is}
use Rattle.averages.proofs.outer.Goals as goal
use Rattle.averages.proofs.outer.Goals.{After-twice, After-twice-2, After-twice-3, Start}

-- ---- after one, two, three sums
module _ (c : After-twice) where
  abbrev s₁ : Start
  s₁ = c.before

  near : SFits w64 (c.args.b *ℤ c.twice.result)
  near = outer-near s₁.args.a s₁.args.b c.twice.result (pos 0) (pos 0) s₁.requires.sized.0 s₁.requires.sized.1 c.twice.ensures.1 (omega arith) (omega arith)

module _ (c : After-twice-2) where
  abbrev s₂ : Start
  s₂ = c.before.before

  far : SFits w64 (s₂.args.a *ℤ c.twice-2.result)
  far = outer-far s₂.args.a s₂.args.b c.twice.result c.twice-2.result (pos 0) s₂.requires.sized.0 s₂.requires.sized.1 c.twice.ensures.1 c.twice-2.ensures.1 (omega arith)

  both : SFits w64 (s₂.args.b *ℤ c.twice.result +ℤ s₂.args.a *ℤ c.twice-2.result)
  both = outer-both s₂.args.a s₂.args.b c.twice.result c.twice-2.result (pos 0) s₂.requires.sized.0 s₂.requires.sized.1 c.twice.ensures.1 c.twice-2.ensures.1 (omega arith)

module _ (c : After-twice-3) where
  abbrev s₃ : Start
  s₃ = c.before.before.before

  abbrev p : ℤ
  p = c.twice.result

  abbrev q : ℤ
  q = c.twice-2.result

  abbrev r : ℤ
  r = c.twice-3.result

  abbrev a : ℤ
  a = s₃.args.a

  abbrev b : ℤ
  b = s₃.args.b

  top : SFits w64 (b *ℤ p +ℤ a *ℤ q -ℤ r)
  top = outer-whole a b p q r s₃.requires.sized.0 s₃.requires.sized.1 c.twice.ensures.1 c.twice-2.ensures.1 c.twice-3.ensures.1

  small : nat_abs (b *ℤ p +ℤ a *ℤ q -ℤ r) ≤ 1000000000000000000
  small = outer-small a b p q r s₃.requires.sized.0 s₃.requires.sized.1 c.twice.ensures.1 c.twice-2.ensures.1 c.twice-3.ensures.1

  ab : SFits w64 (a *ℤ b)
  ab = outer-ab a b s₃.requires.sized.0 s₃.requires.sized.1

  whole : Whole 16384 (pos 4 *ℤ (a *ℤ b))
  whole = outer-bottom a b s₃.requires.sized.0 s₃.requires.sized.1

  bottom : SFits w64 (pos 4 *ℤ (a *ℤ b))
  bottom = whole-fits 16384 (pos 4 *ℤ (a *ℤ b)) (omega arith) whole

-- the values behind the code's words
module _ (c : After-twice-3) where
  top-is : to_z w64 (of_z w64 (to_z w64 (of_z w64 (to_z w64 (of_z w64 (to_z w64 (of_z w64 (b c)) *ℤ to_z w64 (of_z w64 (p c)))) +ℤ to_z w64 (of_z w64 (to_z w64 (of_z w64 (a c)) *ℤ to_z w64 (of_z w64 (q c)))))) -ℤ to_z w64 (of_z w64 (r c))))
      ≡ b c *ℤ p c +ℤ a c *ℤ q c -ℤ r c
  top-is = simp (
    to_z-of_z (s₃ c).ranges.a,
    to_z-of_z (s₃ c).ranges.b,
    to_z-of_z (twice-fits (p c) c.twice.ensures.1),
    to_z-of_z (twice-fits (q c) c.twice-2.ensures.1),
    to_z-of_z (twice-fits (r c) c.twice-3.ensures.1),
    to_z-of_z (near c.before.before),
    to_z-of_z (far c.before),
    to_z-of_z (both c.before),
    to_z-of_z (top c),
  )

  bottom-is : to_z w64 (of_z w64 (pos 4 *ℤ to_z w64 (of_z w64 (to_z w64 (of_z w64 (a c)) *ℤ to_z w64 (of_z w64 (b c)))))) ≡ pos 4 *ℤ (a c *ℤ b c)
  bottom-is = simp (to_z-of_z (s₃ c).ranges.a, to_z-of_z (s₃ c).ranges.b, to_z-of_z (ab c), to_z-of_z (bottom c))

pub overflow_mul-near : goal.overflow_mul-near
overflow_mul-near c = simp (to_z-of_z (s₁ c).ranges.b, to_z-of_z (twice-fits c.twice.result c.twice.ensures.1)) (near c)

pub overflow_mul-far : goal.overflow_mul-far
overflow_mul-far c = simp (to_z-of_z (s₂ c).ranges.a, to_z-of_z (twice-fits c.twice-2.result c.twice-2.ensures.1)) (far c)

pub overflow_add-near : goal.overflow_add-near
overflow_add-near c = simp (
  to_z-of_z (s₂ c).ranges.a,
  to_z-of_z (s₂ c).ranges.b,
  to_z-of_z (twice-fits c.twice.result c.twice.ensures.1),
  to_z-of_z (twice-fits c.twice-2.result c.twice-2.ensures.1),
  to_z-of_z (near c.before),
  to_z-of_z (far c),
) (both c)

pub overflow_sub-near : goal.overflow_sub-near
overflow_sub-near c = simp (
  to_z-of_z (s₃ c).ranges.a,
  to_z-of_z (s₃ c).ranges.b,
  to_z-of_z (twice-fits (p c) c.twice.ensures.1),
  to_z-of_z (twice-fits (q c) c.twice-2.ensures.1),
  to_z-of_z (twice-fits (r c) c.twice-3.ensures.1),
  to_z-of_z (near c.before.before),
  to_z-of_z (far c.before),
  to_z-of_z (both c.before),
) (top c)

pub overflow_mul-a : goal.overflow_mul-a
overflow_mul-a c = simp (to_z-of_z (s₃ c).ranges.a, to_z-of_z (s₃ c).ranges.b) (ab c)

pub overflow_mul-a-2 : goal.overflow_mul-a-2
overflow_mul-a-2 c = simp (to_z-of_z (s₃ c).ranges.a, to_z-of_z (s₃ c).ranges.b, to_z-of_z (ab c)) (bottom c)

pub overflow_cast-a : goal.overflow_cast-a
overflow_cast-a c = subst (λ z. T (non_neg z) × Fits w64 (nat_abs z)) (sym (bottom-is c)) (whole_non_neg 16384 (pos 4 *ℤ (a c *ℤ b c)) (whole c), record { fits = omega (arith, whole_abs 16384 (pos 4 *ℤ (a c *ℤ b c)) (whole c)) })

pub lowest-requires : goal.lowest-requires
lowest-requires c = (
  subst (λ z. 1 ≤ nat_abs z) (sym (bottom-is c)) (whole-some 16384 (pos 4 *ℤ (a c *ℤ b c)) (whole c)),
  subst (λ z. nat_abs z ≤ 1000000000000000000) (sym (top-is c)) (small c),
)

pub returns : goal.returns
returns c = subst₂ (λ x y. Lowest (x over y) c.lowest.result.top c.lowest.result.bottom) (top-is k ∙ formula)
    (ap (λ z. pos (nat_abs z)) (bottom-is k) ∙ whole_is 16384 (pos 4 *ℤ (a k *ℤ b k)) (whole k))
    c.lowest.ensures
  where
    k : After-twice-3
    k = c.before

    formula : b k *ℤ p k +ℤ a k *ℤ q k -ℤ r k ≡ outer_top (a k) (b k) (s₃ k).args.t (s₃ k).args.u (s₃ k).args.v
    formula = ap₂ ◌-ℤ◌ (ap₂ (λ x y. b k *ℤ x +ℤ a k *ℤ y)
        (simp (to_z-of_z (s₃ k).ranges.t, to_z-of_z (s₃ k).ranges.u, to_z-of_z (s₃ k).ranges.v) at k.twice.ensures.0)
        (simp (to_z-of_z (s₃ k).ranges.t, to_z-of_z (s₃ k).ranges.u, to_z-of_z (s₃ k).ranges.v) at k.twice-2.ensures.0))
        (simp (to_z-of_z (s₃ k).ranges.t, to_z-of_z (s₃ k).ranges.u, to_z-of_z (s₃ k).ranges.v) at k.twice-3.ensures.0)
