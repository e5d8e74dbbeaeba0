-- Every step fits, so the code's numerator and denominator are the formula's; `lowest` reduces them.
use mathlib.Core.Path.{◌≡◌, sym, ◌∙◌, ap, ap₂, subst, subst₂}
use Prim.Native.Nat.{◌≤◌}
use native.Mathlib.Omega.{arith}
use lib.Dec.{T}
use lib.IntN.{ℤ, pos, ◌+ℤ◌, ◌*ℤ◌, nat_abs}
use lib.Signed.{non_neg}
use mir.Syntax.{w64}
use mir.Val.{Fits, SFits, to_z, of_z}
use mir.Facts.{to_z-of_z}
use Rattle.exact.specs.Fraction.{◌over◌, Lowest}
use Rattle.direct_theory.specs.Splits.{inner_top, inner_bottom}
use Rattle.direct_theory.proofs.Steps.{Whole, end_fits, inner-ab, inner-cd, inner_a+b, inner_c+d, inner-g, inner-g-small, inner-here, inner-there, inner-small, inner-whole, inner_abcd, inner-four, inner-bottom, whole-fits, whole_non_neg, whole-some, whole_abs, whole_is}
use Rattle.averages.proofs.inner.Goals as goal
use Rattle.averages.proofs.inner.Goals.{Start, After-end_of-2}

none : nat_abs (pos 0) ≤ 4000000000000
none = omega arith

module _ (s : Start) where
  abbrev a : ℤ
  a = s.args.a

  abbrev b : ℤ
  b = s.args.b

  abbrev x : ℤ
  x = s.args.c

  abbrev y : ℤ
  y = s.args.d

  ab : SFits w64 (a *ℤ b)
  ab = inner-ab a b x y (pos 0) (pos 0) s.requires.sized.0 s.requires.sized.1 s.requires.sized.2 s.requires.sized.3 none none

  cd : SFits w64 (x *ℤ y)
  cd = inner-cd a b x y (pos 0) (pos 0) s.requires.sized.0 s.requires.sized.1 s.requires.sized.2 s.requires.sized.3 none none

  a+b : SFits w64 (a +ℤ b)
  a+b = inner_a+b a b x y (pos 0) (pos 0) s.requires.sized.0 s.requires.sized.1 s.requires.sized.2 s.requires.sized.3 none none

  c+d : SFits w64 (x +ℤ y)
  c+d = inner_c+d a b x y (pos 0) (pos 0) s.requires.sized.0 s.requires.sized.1 s.requires.sized.2 s.requires.sized.3 none none

  g : SFits w64 ((a +ℤ b) *ℤ (x +ℤ y))
  g = inner-g a b x y (pos 0) (pos 0) s.requires.sized.0 s.requires.sized.1 s.requires.sized.2 s.requires.sized.3 none none

  g-small : nat_abs ((a +ℤ b) *ℤ (x +ℤ y)) ≤ 16384
  g-small = inner-g-small a b x y (pos 0) (pos 0) s.requires.sized.0 s.requires.sized.1 s.requires.sized.2 s.requires.sized.3 none none

  g-is : to_z w64 (of_z w64 (to_z w64 (of_z w64 (to_z w64 (of_z w64 a) +ℤ to_z w64 (of_z w64 b))) *ℤ to_z w64 (of_z w64 (to_z w64 (of_z w64 x) +ℤ to_z w64 (of_z w64 y))))) ≡ (a +ℤ b) *ℤ (x +ℤ y)
  g-is = simp (to_z-of_z s.ranges.a, to_z-of_z s.ranges.b, to_z-of_z s.ranges.c, to_z-of_z s.ranges.d, to_z-of_z a+b, to_z-of_z c+d, to_z-of_z g)

  abcd : SFits w64 (a *ℤ b *ℤ (x *ℤ y))
  abcd = whole-fits 16777216 (a *ℤ b *ℤ (x *ℤ y)) (omega arith) (inner_abcd a b x y s.requires.sized.0 s.requires.sized.1 s.requires.sized.2 s.requires.sized.3)

  four : SFits w64 (pos 4 *ℤ (a *ℤ b *ℤ (x *ℤ y)))
  four = whole-fits 67108864 (pos 4 *ℤ (a *ℤ b *ℤ (x *ℤ y))) (omega arith) (inner-four a b x y s.requires.sized.0 s.requires.sized.1 s.requires.sized.2 s.requires.sized.3)

  whole : Whole 1099511627776 (inner_bottom a b x y)
  whole = inner-bottom a b x y s.requires.sized.0 s.requires.sized.1 s.requires.sized.2 s.requires.sized.3

  bottom : SFits w64 (inner_bottom a b x y)
  bottom = whole-fits 1099511627776 (inner_bottom a b x y) (omega arith) whole

  bottom-is : to_z w64 (of_z w64 (to_z w64 (of_z w64 (pos 4 *ℤ to_z w64 (of_z w64 (to_z w64 (of_z w64 (to_z w64 (of_z w64 a) *ℤ to_z w64 (of_z w64 b))) *ℤ to_z w64 (of_z w64 (to_z w64 (of_z w64 x) *ℤ to_z w64 (of_z w64 y)))))))
      *ℤ to_z w64 (of_z w64 (to_z w64 (of_z w64 (to_z w64 (of_z w64 a) +ℤ to_z w64 (of_z w64 b))) *ℤ to_z w64 (of_z w64 (to_z w64 (of_z w64 x) +ℤ to_z w64 (of_z w64 y)))))))
      ≡ inner_bottom a b x y
  bottom-is = simp (
    to_z-of_z s.ranges.a,
    to_z-of_z s.ranges.b,
    to_z-of_z s.ranges.c,
    to_z-of_z s.ranges.d,
    to_z-of_z a+b,
    to_z-of_z c+d,
    to_z-of_z g,
    to_z-of_z ab,
    to_z-of_z cd,
    to_z-of_z abcd,
    to_z-of_z four,
    to_z-of_z bottom,
  )

  module _ (p q : ℤ) (hp : nat_abs p ≤ 4000000000000) (hq : nat_abs q ≤ 4000000000000) where
    here : SFits w64 (x *ℤ y *ℤ p)
    here = inner-here a b x y p q s.requires.sized.0 s.requires.sized.1 s.requires.sized.2 s.requires.sized.3 hp hq

    there : SFits w64 (a *ℤ b *ℤ q)
    there = inner-there a b x y p q s.requires.sized.0 s.requires.sized.1 s.requires.sized.2 s.requires.sized.3 hp hq

    small : nat_abs (x *ℤ y *ℤ p +ℤ a *ℤ b *ℤ q) ≤ 1000000000000000000
    small = inner-small a b x y p q s.requires.sized.0 s.requires.sized.1 s.requires.sized.2 s.requires.sized.3 hp hq

    top : SFits w64 (x *ℤ y *ℤ p +ℤ a *ℤ b *ℤ q)
    top = inner-whole a b x y p q s.requires.sized.0 s.requires.sized.1 s.requires.sized.2 s.requires.sized.3 hp hq

    top-is : to_z w64 (of_z w64 (to_z w64 (of_z w64 (to_z w64 (of_z w64 (to_z w64 (of_z w64 x) *ℤ to_z w64 (of_z w64 y))) *ℤ to_z w64 (of_z w64 p)))
        +ℤ to_z w64 (of_z w64 (to_z w64 (of_z w64 (to_z w64 (of_z w64 a) *ℤ to_z w64 (of_z w64 b))) *ℤ to_z w64 (of_z w64 q)))))
        ≡ x *ℤ y *ℤ p +ℤ a *ℤ b *ℤ q
    top-is = simp (
      to_z-of_z s.ranges.a,
      to_z-of_z s.ranges.b,
      to_z-of_z s.ranges.c,
      to_z-of_z s.ranges.d,
      to_z-of_z ab,
      to_z-of_z cd,
      to_z-of_z (end_fits p hp),
      to_z-of_z (end_fits q hq),
      to_z-of_z here,
      to_z-of_z there,
      to_z-of_z top,
    )

pub overflow_mul-ab : goal.overflow_mul-ab
overflow_mul-ab c = simp (to_z-of_z c.ranges.a, to_z-of_z c.ranges.b) (ab c)

pub overflow_mul-cd : goal.overflow_mul-cd
overflow_mul-cd c = simp (to_z-of_z c.ranges.c, to_z-of_z c.ranges.d) (cd c)

pub overflow_add-g : goal.overflow_add-g
overflow_add-g c = simp (to_z-of_z c.ranges.a, to_z-of_z c.ranges.b) (a+b c)

pub overflow_add-g-2 : goal.overflow_add-g-2
overflow_add-g-2 c = simp (to_z-of_z c.ranges.c, to_z-of_z c.ranges.d) (c+d c)

pub overflow_mul-g : goal.overflow_mul-g
overflow_mul-g c = simp (to_z-of_z c.ranges.a, to_z-of_z c.ranges.b, to_z-of_z c.ranges.c, to_z-of_z c.ranges.d, to_z-of_z (a+b c), to_z-of_z (c+d c)) (g c)

pub end_of-requires : goal.end_of-requires
end_of-requires c = record {
  sized = simp (to_z-of_z c.ranges.a, to_z-of_z c.ranges.b, to_z-of_z c.ranges.c, to_z-of_z c.ranges.d, to_z-of_z (a+b c), to_z-of_z (c+d c), to_z-of_z (g c)) (c.requires.sized.0, c.requires.sized.1, g-small c);
  u_bound = simp (to_z-of_z c.ranges.u, to_z-of_z c.ranges.v, to_z-of_z c.ranges.t) (c.requires.t_bound.1, c.requires.t_bound.2, c.requires.t_bound.0);
}

pub overflow_mul-here : goal.overflow_mul-here
overflow_mul-here c = simp (to_z-of_z c.ranges.c, to_z-of_z c.ranges.d, to_z-of_z (cd c.before), to_z-of_z (end_fits c.end_of.result c.end_of.ensures.1))
    (here c.before c.end_of.result (pos 0) c.end_of.ensures.1 none)

pub end_of-requires-2 : goal.end_of-requires-2
end_of-requires-2 c = record {
  sized = simp (to_z-of_z c.ranges.a, to_z-of_z c.ranges.b, to_z-of_z c.ranges.c, to_z-of_z c.ranges.d, to_z-of_z (a+b c.before), to_z-of_z (c+d c.before), to_z-of_z (g c.before)) (c.requires.sized.2, c.requires.sized.3, g-small c.before);
  u_bound = simp (to_z-of_z c.ranges.x, to_z-of_z c.ranges.y, to_z-of_z c.ranges.t) (c.requires.t_bound.3, c.requires.t_bound.4, c.requires.t_bound.0);
}

pub overflow_mul-there : goal.overflow_mul-there
overflow_mul-there c = simp (to_z-of_z c.ranges.a, to_z-of_z c.ranges.b, to_z-of_z (ab c.before.before), to_z-of_z (end_fits c.end_of-2.result c.end_of-2.ensures.1))
    (there c.before.before c.end_of.result c.end_of-2.result c.end_of.ensures.1 c.end_of-2.ensures.1)

pub overflow_add-here : goal.overflow_add-here
overflow_add-here c = let p = c.end_of.result in let q = c.end_of-2.result in
    let hp = c.end_of.ensures.1 in let hq = c.end_of-2.ensures.1 in
    simp (
      to_z-of_z c.ranges.a,
      to_z-of_z c.ranges.b,
      to_z-of_z c.ranges.c,
      to_z-of_z c.ranges.d,
      to_z-of_z (ab c.before.before),
      to_z-of_z (cd c.before.before),
      to_z-of_z (end_fits p hp),
      to_z-of_z (end_fits q hq),
      to_z-of_z (here c.before.before p q hp hq),
      to_z-of_z (there c.before.before p q hp hq),
    ) (top c.before.before p q hp hq)

pub overflow_mul-ab-2 : goal.overflow_mul-ab-2
overflow_mul-ab-2 c = simp (to_z-of_z c.ranges.a, to_z-of_z c.ranges.b, to_z-of_z c.ranges.c, to_z-of_z c.ranges.d, to_z-of_z (ab c.before.before), to_z-of_z (cd c.before.before)) (abcd c.before.before)

pub overflow_mul-ab-3 : goal.overflow_mul-ab-3
overflow_mul-ab-3 c = simp (to_z-of_z c.ranges.a, to_z-of_z c.ranges.b, to_z-of_z c.ranges.c, to_z-of_z c.ranges.d, to_z-of_z (ab c.before.before), to_z-of_z (cd c.before.before), to_z-of_z (abcd c.before.before)) (four c.before.before)

pub overflow_mul-ab-4 : goal.overflow_mul-ab-4
overflow_mul-ab-4 c = simp (to_z-of_z c.ranges.a, to_z-of_z c.ranges.b, to_z-of_z c.ranges.c, to_z-of_z c.ranges.d, to_z-of_z (ab c.before.before), to_z-of_z (cd c.before.before), to_z-of_z (a+b c.before.before), to_z-of_z (c+d c.before.before), to_z-of_z (g c.before.before), to_z-of_z (abcd c.before.before), to_z-of_z (four c.before.before)) (bottom c.before.before)

pub overflow_cast-ab : goal.overflow_cast-ab
overflow_cast-ab c = subst (λ z. T (non_neg z) × Fits w64 (nat_abs z)) (sym (bottom-is c.before.before))
    (whole_non_neg 1099511627776 (inner_bottom (a c.before.before) (b c.before.before) (x c.before.before) (y c.before.before)) (whole c.before.before), record { fits = omega (arith, whole_abs 1099511627776 (inner_bottom (a c.before.before) (b c.before.before) (x c.before.before) (y c.before.before)) (whole c.before.before)) })

pub lowest-requires : goal.lowest-requires
lowest-requires c = let p = c.end_of.result in let q = c.end_of-2.result in (
  subst (λ z. 1 ≤ nat_abs z) (sym (bottom-is c.before.before)) (whole-some 1099511627776 (inner_bottom (a c.before.before) (b c.before.before) (x c.before.before) (y c.before.before)) (whole c.before.before)),
  subst (λ z. nat_abs z ≤ 1000000000000000000) (sym (top-is c.before.before p q c.end_of.ensures.1 c.end_of-2.ensures.1)) (small c.before.before p q c.end_of.ensures.1 c.end_of-2.ensures.1),
)

pub returns : goal.returns
returns c = subst₂ (λ u v. Lowest (u over v) c.lowest.result.top c.lowest.result.bottom)
    (top-is s p q k.before.end_of.ensures.1 k.end_of-2.ensures.1 ∙ formula)
    (ap (λ z. pos (nat_abs z)) (bottom-is s) ∙ whole_is 1099511627776 (inner_bottom (a s) (b s) (x s) (y s)) (whole s))
    c.lowest.ensures
  where
    k : After-end_of-2
    k = c.before

    s : Start
    s = c.before.before.before

    p : ℤ
    p = k.before.end_of.result

    q : ℤ
    q = k.end_of-2.result

    formula : x s *ℤ y s *ℤ p +ℤ a s *ℤ b s *ℤ q ≡ inner_top (a s) (b s) (x s) (y s) s.args.t s.args.u s.args.v s.args.x s.args.y
    formula = ap₂ (λ u v. x s *ℤ y s *ℤ u +ℤ a s *ℤ b s *ℤ v)
        (simp (to_z-of_z s.ranges.a, to_z-of_z s.ranges.b, to_z-of_z s.ranges.c, to_z-of_z s.ranges.d, to_z-of_z (a+b s), to_z-of_z (c+d s), to_z-of_z (g s), to_z-of_z s.ranges.u, to_z-of_z s.ranges.v, to_z-of_z s.ranges.t) at k.before.end_of.ensures.0)
        (simp (to_z-of_z s.ranges.a, to_z-of_z s.ranges.b, to_z-of_z s.ranges.c, to_z-of_z s.ranges.d, to_z-of_z (a+b s), to_z-of_z (c+d s), to_z-of_z (g s), to_z-of_z s.ranges.x, to_z-of_z s.ranges.y, to_z-of_z s.ranges.t) at k.end_of-2.ensures.0)
