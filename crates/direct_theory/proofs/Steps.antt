-- Every step of the two formulas fits 64 bits: sizes are at most 64, and split sums at most 51,200,000.
use mathlib.Core.Path.{◌≡◌, refl, sym, ◌∙◌, ap, ap₂, subst}
use Prim.Native.Nat.{ℕ, ◌+◌, ◌*◌, ◌^◌, ◌≤◌, ◌<◌}
use native.Mathlib.Nat.{mul-le-mul}
use native.Mathlib.Omega.{arith}
use lib.Dec.{T}
use lib.IntN.{ℤ, pos, ◌+ℤ◌, ◌-ℤ◌, ◌*ℤ◌, nat_abs}
use lib.Signed.{non_neg}
use mir.Syntax.{w64}
use mir.Val.{SFits, Fits}
use Rattle.exact.proofs.Sign.{fits_abs, nat_abs_add, nat_abs_sub}
use Rattle.fit_theory.proofs.Ranges.{mul_abs}
use Rattle.direct_theory.specs.Splits.{Sized}

pub sized_abs : (a : ℤ) → Sized a → nat_abs a ≤ 64
sized_abs a s = subst (λ z. nat_abs z ≤ 64) (sym s.is) s.few

-- within b, so it fits
fits : (b : ℕ) (z : ℤ) → b < 2 ^ 63 → nat_abs z ≤ b → SFits w64 z
fits b z l h = fits_abs z (omega arith)

pub twice-fits : (z : ℤ) → nat_abs z ≤ 153600000 → SFits w64 z
twice-fits z h = fits 153600000 z (omega arith) h

pub end_fits : (z : ℤ) → nat_abs z ≤ 4000000000000 → SFits w64 z
end_fits z h = fits 4000000000000 z (omega arith) h

-- an outer edge: p, q, r are twice the distances between its three directions
module _ (a b p q r : ℤ) (sa : Sized a) (sb : Sized b) (hp : nat_abs p ≤ 153600000) (hq : nat_abs q ≤ 153600000) (hr : nat_abs r ≤ 153600000) where
  near : nat_abs (b *ℤ p) ≤ 64 * 153600000
  near = mul_abs b p 64 153600000 (sized_abs b sb) hp

  far : nat_abs (a *ℤ q) ≤ 64 * 153600000
  far = mul_abs a q 64 153600000 (sized_abs a sa) hq

  pub outer-near : SFits w64 (b *ℤ p)
  outer-near = fits (64 * 153600000) (b *ℤ p) (omega arith) near

  pub outer-far : SFits w64 (a *ℤ q)
  outer-far = fits (64 * 153600000) (a *ℤ q) (omega arith) far

  both : nat_abs (b *ℤ p +ℤ a *ℤ q) ≤ 19660800000
  both = omega (arith, near, far, nat_abs_add (b *ℤ p) (a *ℤ q))

  pub outer-both : SFits w64 (b *ℤ p +ℤ a *ℤ q)
  outer-both = fits 19660800000 (b *ℤ p +ℤ a *ℤ q) (omega arith) both

  pub outer-small : nat_abs (b *ℤ p +ℤ a *ℤ q -ℤ r) ≤ 1000000000000000000
  outer-small = omega (arith, both, hr, nat_abs_sub (b *ℤ p +ℤ a *ℤ q) r)

  pub outer-whole : SFits w64 (b *ℤ p +ℤ a *ℤ q -ℤ r)
  outer-whole = fits 1000000000000000000 (b *ℤ p +ℤ a *ℤ q -ℤ r) (omega arith) outer-small

-- one end of an inner edge
module _ (a b g p q r : ℤ) (sa : Sized a) (sb : Sized b) (hg : nat_abs g ≤ 16384) (hp : nat_abs p ≤ 153600000) (hq : nat_abs q ≤ 153600000) (hr : nat_abs r ≤ 153600000) where
  bb : nat_abs (b *ℤ b) ≤ 64 * 64
  bb = mul_abs b b 64 64 (sized_abs b sb) (sized_abs b sb)

  aa : nat_abs (a *ℤ a) ≤ 64 * 64
  aa = mul_abs a a 64 64 (sized_abs a sa) (sized_abs a sa)

  left : nat_abs (b *ℤ b *ℤ p) ≤ 64 * 64 * 153600000
  left = mul_abs (b *ℤ b) p (64 * 64) 153600000 bb hp

  right : nat_abs (a *ℤ a *ℤ q) ≤ 64 * 64 * 153600000
  right = mul_abs (a *ℤ a) q (64 * 64) 153600000 aa hq

  last : nat_abs (g *ℤ r) ≤ 16384 * 153600000
  last = mul_abs g r 16384 153600000 hg hr

  sides : nat_abs (b *ℤ b *ℤ p +ℤ a *ℤ a *ℤ q) ≤ 1258291200000
  sides = omega (arith, left, right, nat_abs_add (b *ℤ b *ℤ p) (a *ℤ a *ℤ q))

  pub end-bb : SFits w64 (b *ℤ b)
  end-bb = fits (64 * 64) (b *ℤ b) (omega arith) bb

  pub end-aa : SFits w64 (a *ℤ a)
  end-aa = fits (64 * 64) (a *ℤ a) (omega arith) aa

  pub end-left : SFits w64 (b *ℤ b *ℤ p)
  end-left = fits (64 * 64 * 153600000) (b *ℤ b *ℤ p) (omega arith) left

  pub end-right : SFits w64 (a *ℤ a *ℤ q)
  end-right = fits (64 * 64 * 153600000) (a *ℤ a *ℤ q) (omega arith) right

  pub end-last : SFits w64 (g *ℤ r)
  end-last = fits (16384 * 153600000) (g *ℤ r) (omega arith) last

  pub end-sides : SFits w64 (b *ℤ b *ℤ p +ℤ a *ℤ a *ℤ q)
  end-sides = fits 1258291200000 (b *ℤ b *ℤ p +ℤ a *ℤ a *ℤ q) (omega arith) sides

  pub end-small : nat_abs (b *ℤ b *ℤ p +ℤ a *ℤ a *ℤ q -ℤ g *ℤ r) ≤ 4000000000000
  end-small = omega (arith, sides, last, nat_abs_sub (b *ℤ b *ℤ p +ℤ a *ℤ a *ℤ q) (g *ℤ r))

  pub end_whole : SFits w64 (b *ℤ b *ℤ p +ℤ a *ℤ a *ℤ q -ℤ g *ℤ r)
  end_whole = fits 4000000000000 (b *ℤ b *ℤ p +ℤ a *ℤ a *ℤ q -ℤ g *ℤ r) (omega arith) end-small

-- an inner edge: x and y are its two ends
module _ (a b c d x y : ℤ) (sa : Sized a) (sb : Sized b) (sc : Sized c) (sd : Sized d) (hx : nat_abs x ≤ 4000000000000) (hy : nat_abs y ≤ 4000000000000) where
  ab : nat_abs (a *ℤ b) ≤ 64 * 64
  ab = mul_abs a b 64 64 (sized_abs a sa) (sized_abs b sb)

  cd : nat_abs (c *ℤ d) ≤ 64 * 64
  cd = mul_abs c d 64 64 (sized_abs c sc) (sized_abs d sd)

  a+b : nat_abs (a +ℤ b) ≤ 128
  a+b = omega (arith, nat_abs_add a b, sized_abs a sa, sized_abs b sb)

  c+d : nat_abs (c +ℤ d) ≤ 128
  c+d = omega (arith, nat_abs_add c d, sized_abs c sc, sized_abs d sd)

  pub inner-g-small : nat_abs ((a +ℤ b) *ℤ (c +ℤ d)) ≤ 16384
  inner-g-small = mul_abs (a +ℤ b) (c +ℤ d) 128 128 a+b c+d

  here : nat_abs (c *ℤ d *ℤ x) ≤ 64 * 64 * 4000000000000
  here = mul_abs (c *ℤ d) x (64 * 64) 4000000000000 cd hx

  there : nat_abs (a *ℤ b *ℤ y) ≤ 64 * 64 * 4000000000000
  there = mul_abs (a *ℤ b) y (64 * 64) 4000000000000 ab hy

  pub inner-ab : SFits w64 (a *ℤ b)
  inner-ab = fits (64 * 64) (a *ℤ b) (omega arith) ab

  pub inner-cd : SFits w64 (c *ℤ d)
  inner-cd = fits (64 * 64) (c *ℤ d) (omega arith) cd

  pub inner_a+b : SFits w64 (a +ℤ b)
  inner_a+b = fits 128 (a +ℤ b) (omega arith) a+b

  pub inner_c+d : SFits w64 (c +ℤ d)
  inner_c+d = fits 128 (c +ℤ d) (omega arith) c+d

  pub inner-g : SFits w64 ((a +ℤ b) *ℤ (c +ℤ d))
  inner-g = fits 16384 ((a +ℤ b) *ℤ (c +ℤ d)) (omega arith) inner-g-small

  pub inner-here : SFits w64 (c *ℤ d *ℤ x)
  inner-here = fits (64 * 64 * 4000000000000) (c *ℤ d *ℤ x) (omega arith) here

  pub inner-there : SFits w64 (a *ℤ b *ℤ y)
  inner-there = fits (64 * 64 * 4000000000000) (a *ℤ b *ℤ y) (omega arith) there

  pub inner-small : nat_abs (c *ℤ d *ℤ x +ℤ a *ℤ b *ℤ y) ≤ 1000000000000000000
  inner-small = omega (arith, here, there, nat_abs_add (c *ℤ d *ℤ x) (a *ℤ b *ℤ y))

  pub inner-whole : SFits w64 (c *ℤ d *ℤ x +ℤ a *ℤ b *ℤ y)
  inner-whole = fits 1000000000000000000 (c *ℤ d *ℤ x +ℤ a *ℤ b *ℤ y) (omega arith) inner-small

-- ---- the denominators
-- a number of 1 or more, as a natural one
pub record Whole (most : ℕ) (z : ℤ) : Type 0 where
  pub count : ℕ
  pub is : z ≡ pos count
  pub some : 1 ≤ count
  pub high : count ≤ most

pub whole* : (m n : ℕ) (x y : ℤ) → Whole m x → Whole n y → Whole (m * n) (x *ℤ y)
whole* m n x y p q = record {
  count = p.count * q.count;
  is = ap₂ ◌*ℤ◌ p.is q.is;
  some = mul-le-mul p.some q.some;
  high = mul-le-mul p.high q.high;
}

pub whole+ : (m n : ℕ) (x y : ℤ) → Whole m x → Whole n y → Whole (m + n) (x +ℤ y)
whole+ m n x y p q = record {
  count = p.count + q.count;
  is = ap₂ ◌+ℤ◌ p.is q.is;
  some = omega (arith, p.some);
  high = omega (arith, p.high, q.high);
}

whole-sized : (a : ℤ) → Sized a → Whole 64 a
whole-sized a s = record { count = s.count; is = s.is; some = s.some; high = s.few }

whole_four : Whole 4 (pos 4)
whole_four = record { count = 4; is = refl; some = omega arith; high = omega arith }

pub outer-bottom : (a b : ℤ) → Sized a → Sized b → Whole 16384 (pos 4 *ℤ (a *ℤ b))
outer-bottom a b sa sb = whole* 4 4096 (pos 4) (a *ℤ b) whole_four (whole* 64 64 a b (whole-sized a sa) (whole-sized b sb))

pub outer-ab : (a b : ℤ) → Sized a → Sized b → SFits w64 (a *ℤ b)
outer-ab a b sa sb = fits (64 * 64) (a *ℤ b) (omega arith) (mul_abs a b 64 64 (sized_abs a sa) (sized_abs b sb))

pub inner-bottom : (a b c d : ℤ) → Sized a → Sized b → Sized c → Sized d → Whole 1099511627776 (pos 4 *ℤ (a *ℤ b *ℤ (c *ℤ d)) *ℤ ((a +ℤ b) *ℤ (c +ℤ d)))
inner-bottom a b c d sa sb sc sd = whole* 67108864 16384 (pos 4 *ℤ (a *ℤ b *ℤ (c *ℤ d))) ((a +ℤ b) *ℤ (c +ℤ d))
    (whole* 4 16777216 (pos 4) (a *ℤ b *ℤ (c *ℤ d)) whole_four (whole* 4096 4096 (a *ℤ b) (c *ℤ d) (whole* 64 64 a b A B) (whole* 64 64 c d C D)))
    (whole* 128 128 (a +ℤ b) (c +ℤ d) (whole+ 64 64 a b A B) (whole+ 64 64 c d C D))
  where
    A : Whole 64 a
    A = whole-sized a sa

    B : Whole 64 b
    B = whole-sized b sb

    C : Whole 64 c
    C = whole-sized c sc

    D : Whole 64 d
    D = whole-sized d sd

-- four times abcd, on the way to the denominator
pub inner-four : (a b c d : ℤ) → Sized a → Sized b → Sized c → Sized d → Whole 67108864 (pos 4 *ℤ (a *ℤ b *ℤ (c *ℤ d)))
inner-four a b c d sa sb sc sd = whole* 4 16777216 (pos 4) (a *ℤ b *ℤ (c *ℤ d)) whole_four
    (whole* 4096 4096 (a *ℤ b) (c *ℤ d) (whole* 64 64 a b (whole-sized a sa) (whole-sized b sb)) (whole* 64 64 c d (whole-sized c sc) (whole-sized d sd)))

pub inner_abcd : (a b c d : ℤ) → Sized a → Sized b → Sized c → Sized d → Whole 16777216 (a *ℤ b *ℤ (c *ℤ d))
inner_abcd a b c d sa sb sc sd = whole* 4096 4096 (a *ℤ b) (c *ℤ d) (whole* 64 64 a b (whole-sized a sa) (whole-sized b sb)) (whole* 64 64 c d (whole-sized c sc) (whole-sized d sd))

pub whole_abs : (m : ℕ) (z : ℤ) → Whole m z → nat_abs z ≤ m
whole_abs m z w = subst (λ x. nat_abs x ≤ m) (sym w.is) w.high

pub whole-some : (m : ℕ) (z : ℤ) → Whole m z → 1 ≤ nat_abs z
whole-some m z w = subst (λ x. 1 ≤ nat_abs x) (sym w.is) w.some

pub whole-fits : (m : ℕ) (z : ℤ) → m < 2 ^ 63 → Whole m z → SFits w64 z
whole-fits m z l w = fits m z l (whole_abs m z w)

pub whole_non_neg : (m : ℕ) (z : ℤ) → Whole m z → T (non_neg z)
whole_non_neg m z w = subst (λ x. T (non_neg x)) (sym w.is) tt

pub whole_is : (m : ℕ) (z : ℤ) → Whole m z → pos (nat_abs z) ≡ z
whole_is m z w = ap (λ x. pos (nat_abs x)) w.is ∙ sym w.is
