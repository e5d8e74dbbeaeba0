-- One digit of 2000·n + b·D in an i64, and the loop over the digits.
use mathlib.Core.Path.{◌≡◌, sym, ◌∙◌, ap, ap₂}
use mathlib.Core.List.{List, [], ◌∷◌}
use Prim.Native.Nat.{ℕ, zero, suc, ◌+◌, ◌*◌, ◌≤◌, ◌<◌}
use native.Mathlib.Nat.{mul-le-mul, mul-le-mul_right}
use native.Mathlib.Numerals.{add-one}
use native.Mathlib.Omega.{arith}
use lib.IntN.{ℤ, pos, nat_abs, ◌+ℤ◌, ◌*ℤ◌}
use lib.ListN.{length, get_or}
use mir.Syntax.{w64}
use mir.Val.{SFits, to_z, of_z}
use Rattle.exact.proofs.Quote.{by-ring, quote}
use Rattle.exact.proofs.Sign.{nat_abs_add, nat_abs_mul, fits_abs, back, back-pos}
use Rattle.long_digits.specs.Digits.{base, value}
use Rattle.long_digits.specs.Clamp.{clamp, most}
use Rattle.long_digits.proofs.Values.{value_pos, value-suc, value_none}
use Rattle.long_digits.proofs.Clamps.{clamp-near, clamp_in, clamp-next}
use Rattle.long_theory.specs.Long.{digit_of, long_denominator, long_numerator}
use Rattle.long_lengths.specs.Edge.{LongEdge, measure}

module _ (x b : ℤ) (d : ℕ) (hx : nat_abs x < base) (hb : nat_abs b ≤ 200000000001) (hd : d < base) where
  left_near : nat_abs (pos 2000 *ℤ x) ≤ 2000 * base
  left_near = omega (arith, nat_abs_mul (pos 2000) x)

  right_near : nat_abs (b *ℤ pos d) ≤ 200000000001 * base
  right_near = omega (arith, nat_abs_mul b (pos d), mul-le-mul {n₁ = nat_abs b} {m₁ = d} {n₂ = 200000000001} {m₂ = base} hb (omega arith))

  pub measure-near : nat_abs (measure b (pos d) x) ≤ 999999 * most
  measure-near = omega (arith, nat_abs_add (pos 2000 *ℤ x) (b *ℤ pos d), left_near, right_near)

  pub left_is : to_z w64 (of_z w64 (pos 2000 *ℤ to_z w64 (of_z w64 x))) ≡ pos 2000 *ℤ x
  left_is = ap (λ z. to_z w64 (of_z w64 (pos 2000 *ℤ z))) (back x (omega arith)) ∙ back (pos 2000 *ℤ x) (omega (arith, left_near))

  pub left-fits : SFits w64 (pos 2000 *ℤ to_z w64 (of_z w64 x))
  left-fits = rw (back x (omega arith)) (fits_abs (pos 2000 *ℤ x) (omega (arith, left_near)))

  pub right_of : to_z w64 (of_z w64 b) *ℤ to_z w64 d ≡ b *ℤ pos d
  right_of = ap₂ ◌*ℤ◌ (back b (omega arith)) (back-pos d (omega arith))

  pub right-fits : SFits w64 (to_z w64 (of_z w64 b) *ℤ to_z w64 d)
  right-fits = rw right_of (fits_abs (b *ℤ pos d) (omega (arith, right_near)))

  pub right_is : to_z w64 (of_z w64 (to_z w64 (of_z w64 b) *ℤ to_z w64 d)) ≡ b *ℤ pos d
  right_is = ap (λ z. to_z w64 (of_z w64 z)) right_of ∙ back (b *ℤ pos d) (omega (arith, right_near))

  both : to_z w64 (of_z w64 (pos 2000 *ℤ to_z w64 (of_z w64 x))) +ℤ to_z w64 (of_z w64 (to_z w64 (of_z w64 b) *ℤ to_z w64 d)) ≡ measure b (pos d) x
  both = ap₂ ◌+ℤ◌ left_is right_is

  pub both-fits : SFits w64 (to_z w64 (of_z w64 (pos 2000 *ℤ to_z w64 (of_z w64 x))) +ℤ to_z w64 (of_z w64 (to_z w64 (of_z w64 b) *ℤ to_z w64 d)))
  both-fits = rw both (fits_abs (measure b (pos d) x) (omega (arith, measure-near)))

  pub both_is : to_z w64 (of_z w64 (to_z w64 (of_z w64 (pos 2000 *ℤ to_z w64 (of_z w64 x))) +ℤ to_z w64 (of_z w64 (to_z w64 (of_z w64 b) *ℤ to_z w64 d)))) ≡ measure b (pos d) x
  both_is = ap (λ z. to_z w64 (of_z w64 z)) both ∙ back (measure b (pos d) x) (omega (arith, measure-near))

-- ---- the loop
-- the measure of numbers is that of their digits
value-measure : (b : ℤ) (L : ℕ) (f g : ℕ → ℤ) → value L (λ k. measure b (f k) (g k)) ≡ measure b (value L f) (value L g)
unfolding value
value-measure b zero f g = by-ring (b ∷ []) (search quote depth 20) tt
value-measure b (suc L) f g = ap (λ z. pos base *ℤ z +ℤ measure b (f L) (g L)) (value-measure b L f g)
    ∙ by-ring (b ∷ pos base ∷ value L f ∷ value L g ∷ f L ∷ g L ∷ []) (search quote depth 20) tt

-- after k digits
pub record Compared (K L : ℕ) (Ds : List ℕ) (ns : List ℤ) (v : ℕ) (b : ℤ) (k : ℕ) (whole : ℤ) : Type 0 where
  pub here : k ≤ L
  pub sum : whole ≡ clamp most (value k (λ j. measure b (pos (get_or Ds j 0)) (digit_of K ns j v)))

module _ {K L : ℕ} {Ds : List ℕ} {ns : List ℤ} {v : ℕ} (w : LongEdge K L Ds ns v) (b : ℤ) (hb : nat_abs b ≤ 200000000001) where
  f : ℕ → ℤ
  f j = measure b (pos (get_or Ds j 0)) (digit_of K ns j v)

  pub compare_start : Compared K L Ds ns v b 0 (pos 0)
  compare_start = record { here = omega arith; sum = sym (ap (clamp most) (value_none (λ j. measure b (pos (get_or Ds j 0)) (digit_of K ns j v))) ∙ clamp_in most (pos 0) (omega arith)) }

  pub compare_end : (k : ℕ) (z : ℤ) → L ≤ k → Compared K L Ds ns v b k z → z ≡ clamp most (measure b (pos (long_denominator L Ds)) (long_numerator L K ns v))
  compare_end k z h c = let e : k ≡ L = omega (arith, c.here) in
      c.sum ∙ ap (λ (i : ℕ). clamp most (value i (λ j. measure b (pos (get_or Ds j 0)) (digit_of K ns j v)))) e
      ∙ ap (clamp most) (value-measure b L (λ j. pos (get_or Ds j 0)) (λ j. digit_of K ns j v) ∙ ap (λ y. measure b y (long_numerator L K ns v)) (value_pos L (λ j. get_or Ds j 0)))

  module _ (k : ℕ) (l : k < L) where
    pub place-low : k * K + v < length ns
    place-low = omega (arith, w.row.table, w.row.edge, mul-le-mul_right {m = suc k} {n = L} K l)

    pub digit-back : to_z w64 (of_z w64 (digit_of K ns k v)) ≡ digit_of K ns k v
    digit-back = back (digit_of K ns k v) (omega (arith, w.tops k l))

    pub term-near : nat_abs (measure b (pos (get_or Ds k 0)) (digit_of K ns k v)) ≤ 999999 * most
    term-near = measure-near (digit_of K ns k v) b (get_or Ds k 0) (w.tops k l) hb (w.digits k)

    pub compare_turn : (z y t : ℤ) → Compared K L Ds ns v b k z → t ≡ measure b (pos (get_or Ds k 0)) (digit_of K ns k v) → y ≡ clamp most (pos base *ℤ z +ℤ t) → Compared K L Ds ns v b (k + 1) y
    compare_turn z y t c e h = rw add-one (record {
      here = l;
      sum = h ∙ ap₂ (λ p q. clamp most (pos base *ℤ p +ℤ q)) c.sum e
          ∙ clamp-next most (measure b (pos (get_or Ds k 0)) (digit_of K ns k v)) term-near (value k (λ j. measure b (pos (get_or Ds j 0)) (digit_of K ns j v)))
          ∙ ap (clamp most) (sym (value-suc k (λ j. measure b (pos (get_or Ds j 0)) (digit_of K ns j v))));
    })

    -- what the code hands on
    pub handed : (y : ℤ) → y ≡ measure b (pos (get_or Ds k 0)) (to_z w64 (of_z w64 (digit_of K ns k v))) → to_z w64 (of_z w64 y) ≡ measure b (pos (get_or Ds k 0)) (digit_of K ns k v)
    handed y e = ap (λ z. to_z w64 (of_z w64 z)) (e ∙ ap (measure b (pos (get_or Ds k 0))) digit-back)
        ∙ back (measure b (pos (get_or Ds k 0)) (digit_of K ns k v)) (omega (arith, term-near))

    pub kept : (y z : ℤ) → y ≡ clamp most z → to_z w64 (of_z w64 y) ≡ clamp most z
    kept y z e = back y (omega (arith, ap nat_abs e, clamp-near most z)) ∙ e

pub whole-near : {K L : ℕ} {Ds : List ℕ} {ns : List ℤ} {v : ℕ} {b : ℤ} {k : ℕ} {z : ℤ} → Compared K L Ds ns v b k z → nat_abs z ≤ most
whole-near {K} {L} {Ds} {ns} {v} {b} {k} {z} c = omega (arith, ap nat_abs c.sum, clamp-near most (value k (λ j. measure b (pos (get_or Ds j 0)) (digit_of K ns j v))))
