-- Every step fits, so the code's words are the formula's numbers.
use mathlib.Core.Path.{◌≡◌, ap, ap₂}
use Prim.Native.Nat.{◌≤◌}
use native.Mathlib.Omega.{arith}
use lib.IntN.{ℤ, pos, ◌+ℤ◌, ◌-ℤ◌, ◌*ℤ◌, nat_abs}
use mir.Syntax.{w64}
use mir.Val.{SFits}
use mir.Facts.{to_z-of_z}
use Rattle.direct_theory.specs.Splits.{twice, end_of}
use Rattle.direct_theory.proofs.Steps.{twice-fits, end-bb, end-aa, end-left, end-right, end-last, end-sides, end-small, end_whole}
use Rattle.averages.proofs.end_of.Goals as goal
use Rattle.averages.proofs.end_of.Goals.{Start}

module _ (s : Start) where
  bb : SFits w64 (s.args.b *ℤ s.args.b)
  bb = end-bb s.args.a s.args.b (pos 0) (pos 0) (pos 0) (pos 0) s.requires.sized.0 s.requires.sized.1 (omega arith) (omega arith) (omega arith) (omega arith)

  aa : SFits w64 (s.args.a *ℤ s.args.a)
  aa = end-aa s.args.a s.args.b (pos 0) (pos 0) (pos 0) (pos 0) s.requires.sized.0 s.requires.sized.1 (omega arith) (omega arith) (omega arith) (omega arith)

  module _ (p q r : ℤ) (hp : nat_abs p ≤ 153600000) (hq : nat_abs q ≤ 153600000) (hr : nat_abs r ≤ 153600000) where
    left : SFits w64 (s.args.b *ℤ s.args.b *ℤ p)
    left = end-left s.args.a s.args.b s.args.g p q r s.requires.sized.0 s.requires.sized.1 s.requires.sized.2 hp hq hr

    right : SFits w64 (s.args.a *ℤ s.args.a *ℤ q)
    right = end-right s.args.a s.args.b s.args.g p q r s.requires.sized.0 s.requires.sized.1 s.requires.sized.2 hp hq hr

    sides : SFits w64 (s.args.b *ℤ s.args.b *ℤ p +ℤ s.args.a *ℤ s.args.a *ℤ q)
    sides = end-sides s.args.a s.args.b s.args.g p q r s.requires.sized.0 s.requires.sized.1 s.requires.sized.2 hp hq hr

    last : SFits w64 (s.args.g *ℤ r)
    last = end-last s.args.a s.args.b s.args.g p q r s.requires.sized.0 s.requires.sized.1 s.requires.sized.2 hp hq hr

    whole : SFits w64 (s.args.b *ℤ s.args.b *ℤ p +ℤ s.args.a *ℤ s.args.a *ℤ q -ℤ s.args.g *ℤ r)
    whole = end_whole s.args.a s.args.b s.args.g p q r s.requires.sized.0 s.requires.sized.1 s.requires.sized.2 hp hq hr

    small : nat_abs (s.args.b *ℤ s.args.b *ℤ p +ℤ s.args.a *ℤ s.args.a *ℤ q -ℤ s.args.g *ℤ r) ≤ 4000000000000
    small = end-small s.args.a s.args.b s.args.g p q r s.requires.sized.0 s.requires.sized.1 s.requires.sized.2 hp hq hr

none : nat_abs (pos 0) ≤ 153600000
none = omega arith

pub overflow_mul-left : goal.overflow_mul-left
overflow_mul-left c = simp (to_z-of_z c.ranges.b) (bb c)

pub overflow_mul-left-2 : goal.overflow_mul-left-2
overflow_mul-left-2 c = simp (to_z-of_z c.ranges.b, to_z-of_z (bb c.before), to_z-of_z (twice-fits c.twice.result c.twice.ensures.1))
    (left c.before c.twice.result (pos 0) (pos 0) c.twice.ensures.1 none none)

pub overflow_mul-right : goal.overflow_mul-right
overflow_mul-right c = simp (to_z-of_z c.ranges.a) (aa c.before)

pub overflow_mul-right-2 : goal.overflow_mul-right-2
overflow_mul-right-2 c = simp (to_z-of_z c.ranges.a, to_z-of_z (aa c.before.before), to_z-of_z (twice-fits c.twice-2.result c.twice-2.ensures.1))
    (right c.before.before c.twice.result c.twice-2.result (pos 0) c.twice.ensures.1 c.twice-2.ensures.1 none)

pub overflow_add-result : goal.overflow_add-result
overflow_add-result c = let p = c.twice.result in let q = c.twice-2.result in
    let hp = c.twice.ensures.1 in let hq = c.twice-2.ensures.1 in
    simp (
      to_z-of_z c.ranges.a,
      to_z-of_z c.ranges.b,
      to_z-of_z (bb c.before.before),
      to_z-of_z (aa c.before.before),
      to_z-of_z (twice-fits p hp),
      to_z-of_z (twice-fits q hq),
      to_z-of_z (left c.before.before p q (pos 0) hp hq none),
      to_z-of_z (right c.before.before p q (pos 0) hp hq none),
    ) (sides c.before.before p q (pos 0) hp hq none)

pub overflow_mul-result : goal.overflow_mul-result
overflow_mul-result c = simp (to_z-of_z c.ranges.g, to_z-of_z (twice-fits c.twice-3.result c.twice-3.ensures.1))
    (last c.before.before.before c.twice.result c.twice-2.result c.twice-3.result c.twice.ensures.1 c.twice-2.ensures.1 c.twice-3.ensures.1)

pub overflow_sub-result : goal.overflow_sub-result
overflow_sub-result c = let p = c.twice.result in let q = c.twice-2.result in let r = c.twice-3.result in
    let hp = c.twice.ensures.1 in let hq = c.twice-2.ensures.1 in let hr = c.twice-3.ensures.1 in
    simp (
      to_z-of_z c.ranges.a,
      to_z-of_z c.ranges.b,
      to_z-of_z c.ranges.g,
      to_z-of_z (bb c.before.before.before),
      to_z-of_z (aa c.before.before.before),
      to_z-of_z (twice-fits p hp),
      to_z-of_z (twice-fits q hq),
      to_z-of_z (twice-fits r hr),
      to_z-of_z (left c.before.before.before p q r hp hq hr),
      to_z-of_z (right c.before.before.before p q r hp hq hr),
      to_z-of_z (sides c.before.before.before p q r hp hq hr),
      to_z-of_z (last c.before.before.before p q r hp hq hr),
    ) (whole c.before.before.before p q r hp hq hr)

pub returns : goal.returns
returns c = let p = c.twice.result in let q = c.twice-2.result in let r = c.twice-3.result in
    let hp = c.twice.ensures.1 in let hq = c.twice-2.ensures.1 in let hr = c.twice-3.ensures.1 in
    simp (
      to_z-of_z c.ranges.a,
      to_z-of_z c.ranges.b,
      to_z-of_z c.ranges.g,
      to_z-of_z (bb c.before.before.before),
      to_z-of_z (aa c.before.before.before),
      to_z-of_z (twice-fits p hp),
      to_z-of_z (twice-fits q hq),
      to_z-of_z (twice-fits r hr),
      to_z-of_z (left c.before.before.before p q r hp hq hr),
      to_z-of_z (right c.before.before.before p q r hp hq hr),
      to_z-of_z (sides c.before.before.before p q r hp hq hr),
      to_z-of_z (last c.before.before.before p q r hp hq hr),
      to_z-of_z (whole c.before.before.before p q r hp hq hr),
    ) (
      formula p q r
          (simp (to_z-of_z c.ranges.u, to_z-of_z c.ranges.v, to_z-of_z c.ranges.w) at c.twice.ensures.0)
          (simp (to_z-of_z c.ranges.u, to_z-of_z c.ranges.v, to_z-of_z c.ranges.w) at c.twice-2.ensures.0)
          (simp (to_z-of_z c.ranges.u, to_z-of_z c.ranges.v, to_z-of_z c.ranges.w) at c.twice-3.ensures.0),
      small c.before.before.before p q r hp hq hr,
    )
  where
    formula : (p q r : ℤ) → p ≡ twice c.args.u c.args.w c.args.v → q ≡ twice c.args.v c.args.w c.args.u → r ≡ twice c.args.u c.args.v c.args.w
        → c.args.b *ℤ c.args.b *ℤ p +ℤ c.args.a *ℤ c.args.a *ℤ q -ℤ c.args.g *ℤ r ≡ end_of c.args.a c.args.b c.args.g c.args.u c.args.v c.args.w
    formula p q r e f h = ap₂ ◌-ℤ◌ (ap₂ (λ x y. c.args.b *ℤ c.args.b *ℤ x +ℤ c.args.a *ℤ c.args.a *ℤ y) e f) (ap (λ x. c.args.g *ℤ x) h)
