-- An array that a loop fills with a number for each level, and the digits of one level.
use mathlib.Core.Path.{◌≡◌, sym, ◌∙◌, ap, ap₂}
use mathlib.Core.List.{List, [], ◌∷◌}
use mathlib.Core.Logic.{◌⊎◌, inl, inr}
use Prim.Native.Nat.{ℕ, suc, ◌+◌, ◌*◌, ◌-◌, ◌≤◌, ◌<◌}
use native.Mathlib.Decide.{ℕ_discrete}
use native.Mathlib.Nat.{mul-le-mul, mul-le-mul_right}
use native.Mathlib.Numerals.{add-one}
use native.Mathlib.Omega.{arith}
use lib.IntN.{ℤ, pos, nat_abs, ◌+ℤ◌, ◌-ℤ◌, ◌*ℤ◌}
use lib.ListN.{length, get_or, set, take, drop, length-set, length-drop}
use lib.Seq.{get_or-drop, get_or-set_same, get_or-set_other, take_all}
use mir.Syntax.{w64}
use mir.Val.{SFits, to_z, of_z}
use Rattle.exact.specs.Sum.{sum}
use Rattle.exact.specs.Table.{table, entry_of}
use Rattle.exact.proofs.Quote.{by-ring, quote}
use Rattle.exact.proofs.Sign.{nat_abs_sub, nat_abs_mul, back, back-pos, fits_abs}
use Rattle.exact.proofs.Fill.{length-table}
use Rattle.exact.proofs.Sum.{sum_cong}
use Rattle.exact.proofs.Sweep.{sum_abs}
use Rattle.long_digits.specs.Digits.{base}
use Rattle.tree_theory.specs.Limits.{max_edges}
use Rattle.pairs.specs.Ready.{InRange}
use Rattle.long_theory.specs.Long.{max_levels, digit_of}
use Rattle.long_levels.specs.Levels.{LevelTable, Splits, Level, level_f}

-- ---- the array
pub record Levelling (L : ℕ) (g : ℕ → ℤ) (k : ℕ) (r : List ℤ) : Type 0 where
  pub here : k ≤ L
  pub size : length r ≡ max_levels
  pub below : (i : ℕ) → i < k → entry_of r i ≡ g i
  pub near : (i : ℕ) → i < k → nat_abs (g i) ≤ 9000000000000000000

module _ (L : ℕ) (g : ℕ → ℤ) where
  pub level-start : (r : List ℤ) → r ≡ table max_levels (λ _. pos 0) → Levelling L g 0 r
  level-start r e = record { here = omega arith; size = ap length e ∙ length-table max_levels (λ _. pos 0); below = λ i l. absurd (omega arith); near = λ i l. absurd (omega arith) }

  pub level-turn : L ≤ max_levels → (k : ℕ) (r : List ℤ) (y : ℤ) → k < L → y ≡ g k → nat_abs (g k) ≤ 9000000000000000000 → Levelling L g k r → Levelling L g (k + 1) (set r k y)
  level-turn few k r y l e h w = record {
    here = omega arith;
    size = simp length-set w.size;
    below = λ i q. entry i (ℕ_discrete i k) q;
    near = λ i q. far i (ℕ_discrete i k) q;
  }
    where
      entry : (i : ℕ) → Dec (i ≡ k) → i < k + 1 → entry_of (set r k y) i ≡ g i
      entry i (yes p) q = ap (λ (j : ℕ). entry_of (set r k y) j) p ∙ get_or-set_same r k y (pos 0) (omega (arith, w.size)) ∙ e ∙ ap g (sym p)
      entry i (no p) q = get_or-set_other r k i y (pos 0) p ∙ w.below i (omega (arith, p, q))

      far : (i : ℕ) → Dec (i ≡ k) → i < k + 1 → nat_abs (g i) ≤ 9000000000000000000
      far i (yes p) q = omega (arith, ap (λ (j : ℕ). nat_abs (g j)) p, h)
      far i (no p) q = w.near i (omega (arith, p, q))

  pub level-end : (k : ℕ) (r : List ℤ) → L ≤ k → Levelling L g k r → LevelTable L g r
  level-end k r h w = record { size = w.size; entries = λ i l. w.below i (omega arith); near = λ i l. w.near i (omega arith) }

-- ---- the digits of one level, as the code lends them
abbrev pub rows : ℕ → List ℤ → List ℤ
rows at ns = take (length ns - at) (drop at ns)

module _ (K L : ℕ) (ns : List ℤ) (table : L * K ≤ length ns) (tops : (k : ℕ) → nat_abs (entry_of ns k) < base) (k at : ℕ) (l : k < L) (start : at ≡ k * K) where
  pub level-room : at + K ≤ length ns
  level-room = omega (arith, mul-le-mul_right {m = suc k} {n = L} K l)

  whole : rows at ns ≡ drop at ns
  whole = take_all (length ns - at) (drop at ns) (omega (arith, length-drop at ns))

  pub level-at : (v : ℕ) → entry_of (rows at ns) v ≡ digit_of K ns k v
  level-at v = ap (λ (x : List ℤ). entry_of x v) whole ∙ get_or-drop at ns v (pos 0) ∙ ap (λ (i : ℕ). entry_of ns (i + v)) start

  long : K ≤ length (rows at ns)
  long = omega (arith, level-room, ap length whole, length-drop at ns)

  small : (v : ℕ) → nat_abs (entry_of (rows at ns) v) < base
  small v = omega (arith, ap nat_abs (level-at v), tops (k * K + v))

  pub level-digits : Level K (rows at ns)
  level-digits = record { room = long; digits = small }

  pub level-range : InRange K (rows at ns)
  level-range = record { room = long; near = λ v _. omega (arith, small v) }

  pub level-sum : sum K (entry_of (rows at ns)) ≡ sum K (digit_of K ns k)
  level-sum = sum_cong K (λ v _. level-at v)

  pub level-sum-near : K ≤ max_edges → nat_abs (sum K (digit_of K ns k)) ≤ 125000000
  level-sum-near few = omega (arith, sum_abs K base (digit_of K ns k) (λ v _. omega (arith, tops (k * K + v))), mul-le-mul_right base few)

-- ---- the code's numbers
module _ (x : ℤ) (h : nat_abs x ≤ 9000000000000000000) where
  other-near : nat_abs (pos 0 -ℤ x) ≤ 9000000000000000000
  other-near = omega (arith, nat_abs_sub (pos 0) x)

  pub other_fits : SFits w64 (pos 0 -ℤ to_z w64 (of_z w64 x))
  other_fits = rw (back x (omega arith)) (fits_abs (pos 0 -ℤ x) (omega (arith, other-near)))

  pub other-is : to_z w64 (of_z w64 (pos 0 -ℤ to_z w64 (of_z w64 x))) ≡ pos 0 -ℤ x
  other-is = ap (λ z. to_z w64 (of_z w64 (pos 0 -ℤ z))) (back x (omega arith)) ∙ back (pos 0 -ℤ x) (omega (arith, other-near))

  pub other-within : nat_abs (pos 0 -ℤ x) ≤ 9000000000000000000
  other-within = other-near

module _ (d t : ℕ) (hd : d < base) (ht : t ≤ 1000000) where
  pub product-near : nat_abs (pos d *ℤ pos t) ≤ 1000000000000
  product-near = omega (arith, mul-le-mul {n₁ = d} {m₁ = t} {n₂ = 1000000} {m₂ = 1000000} (omega arith) ht)

  product-of : to_z w64 d *ℤ to_z w64 t ≡ pos d *ℤ pos t
  product-of = ap₂ ◌*ℤ◌ (back-pos d (omega arith)) (back-pos t (omega arith))

  pub product-fits : SFits w64 (to_z w64 d *ℤ to_z w64 t)
  product-fits = rw product-of (fits_abs (pos d *ℤ pos t) (omega (arith, product-near)))

  pub product_is : to_z w64 (of_z w64 (to_z w64 d *ℤ to_z w64 t)) ≡ pos d *ℤ pos t
  product_is = ap (λ z. to_z w64 (of_z w64 z)) product-of ∙ back (pos d *ℤ pos t) (omega (arith, product-near))

pub digit-fits : (d : ℕ) → d < base → SFits w64 (pos d)
digit-fits d h = fits_abs (pos d) (omega arith)

pub small-back : (x y : ℤ) → x ≡ y → nat_abs y ≤ 9000000000000000000 → to_z w64 (of_z w64 x) ≡ y
small-back x y e h = back x (omega (arith, ap nat_abs e)) ∙ e

-- ---- one level of F, edge by edge
pub record FSoFar (K : ℕ) (squares : ℤ) (s n : ℕ → ℤ) (D : ℤ) (v : ℕ) (z : ℤ) : Type 0 where
  pub here : v ≤ K
  pub same : z ≡ level_f v squares s D n
  pub near : nat_abs z ≤ 5040000000000000000 + v * 100800000000000

sub_none : (z : ℤ) → z ≡ z -ℤ pos 0
sub_none z = by-ring (z ∷ []) (search quote depth 20) tt

sub_more : (z a b : ℤ) → (z -ℤ a) -ℤ b ≡ z -ℤ (a +ℤ b)
sub_more z a b = by-ring (z ∷ a ∷ b ∷ []) (search quote depth 20) tt

module _ {K : ℕ} {squares : ℤ} {splits : List ℤ} (w : Splits K squares splits) (d : ℕ) (hd : d < base) (n : ℕ → ℤ) where
  first-near : nat_abs (pos d *ℤ squares) ≤ 5040000000000000000
  first-near = omega (arith, nat_abs_mul (pos d) squares, mul-le-mul {n₁ = d} {m₁ = nat_abs squares} {n₂ = 1000000} {m₂ = 5040000000000} (omega arith) w.whole)

  first_of : to_z w64 d *ℤ to_z w64 (of_z w64 squares) ≡ pos d *ℤ squares
  first_of = ap₂ ◌*ℤ◌ (back-pos d (omega arith)) (back squares (omega (arith, w.whole)))

  pub first_fits : SFits w64 (to_z w64 d *ℤ to_z w64 (of_z w64 squares))
  first_fits = rw first_of (fits_abs (pos d *ℤ squares) (omega (arith, first-near)))

  pub f-start : FSoFar K squares (entry_of splits) n (pos d) 0 (to_z w64 (of_z w64 (to_z w64 d *ℤ to_z w64 (of_z w64 squares))))
  unfolding sum
  f-start = record {
    here = omega arith;
    same = ap (λ z. to_z w64 (of_z w64 z)) first_of ∙ back (pos d *ℤ squares) (omega (arith, first-near)) ∙ sub_none (pos d *ℤ squares);
    near = omega (arith, ap nat_abs (ap (λ z. to_z w64 (of_z w64 z)) first_of ∙ back (pos d *ℤ squares) (omega (arith, first-near))), first-near);
  }

  module _ (small : (v : ℕ) → nat_abs (n v) < base) (v : ℕ) (l : v < K) (z : ℤ) (f : FSoFar K squares (entry_of splits) n (pos d) v z) where
    term-near : nat_abs (n v *ℤ entry_of splits v) ≤ 100800000000000
    term-near = omega (arith, nat_abs_mul (n v) (entry_of splits v), mul-le-mul {n₁ = nat_abs (n v)} {m₁ = nat_abs (entry_of splits v)} {n₂ = 1000000} {m₂ = 100800000} (omega (arith, small v)) (w.each v l))

    term_of_lem : to_z w64 (of_z w64 (n v)) *ℤ to_z w64 (of_z w64 (entry_of splits v)) ≡ n v *ℤ entry_of splits v
    term_of_lem = ap₂ ◌*ℤ◌ (back (n v) (omega (arith, small v))) (back (entry_of splits v) (omega (arith, w.each v l)))

    pub term_fits : SFits w64 (to_z w64 (of_z w64 (n v)) *ℤ to_z w64 (of_z w64 (entry_of splits v)))
    term_fits = rw term_of_lem (fits_abs (n v *ℤ entry_of splits v) (omega (arith, term-near)))

    term_is : to_z w64 (of_z w64 (to_z w64 (of_z w64 (n v)) *ℤ to_z w64 (of_z w64 (entry_of splits v)))) ≡ n v *ℤ entry_of splits v
    term_is = ap (λ y. to_z w64 (of_z w64 y)) term_of_lem ∙ back (n v *ℤ entry_of splits v) (omega (arith, term-near))

    next-near : nat_abs (z -ℤ n v *ℤ entry_of splits v) ≤ 5040000000000000000 + (v + 1) * 100800000000000
    next-near = omega (arith, nat_abs_sub z (n v *ℤ entry_of splits v), term-near, f.near)

    bound : nat_abs (z -ℤ n v *ℤ entry_of splits v) ≤ 9000000000000000000
    bound = omega (arith, next-near, w.few, mul-le-mul_right {m = v + 1} {n = 125} 100800000000000 (omega (arith, w.few)))

    pub next_fits : SFits w64 (z -ℤ to_z w64 (of_z w64 (to_z w64 (of_z w64 (n v)) *ℤ to_z w64 (of_z w64 (entry_of splits v)))))
    next_fits = rw term_is (fits_abs (z -ℤ n v *ℤ entry_of splits v) (omega (arith, bound)))

    next-is : to_z w64 (of_z w64 (z -ℤ to_z w64 (of_z w64 (to_z w64 (of_z w64 (n v)) *ℤ to_z w64 (of_z w64 (entry_of splits v)))))) ≡ z -ℤ n v *ℤ entry_of splits v
    next-is = ap (λ y. to_z w64 (of_z w64 (z -ℤ y))) term_is ∙ back (z -ℤ n v *ℤ entry_of splits v) (omega (arith, bound))

    pub f-turn : FSoFar K squares (entry_of splits) n (pos d) (v + 1) (to_z w64 (of_z w64 (z -ℤ to_z w64 (of_z w64 (to_z w64 (of_z w64 (n v)) *ℤ to_z w64 (of_z w64 (entry_of splits v)))))))
    unfolding sum
    f-turn = record {
      here = omega arith;
      same = next-is ∙ ap (λ y. y -ℤ n v *ℤ entry_of splits v) f.same ∙ sub_more (pos d *ℤ squares) (sum v (λ u. n u *ℤ entry_of splits u)) (n v *ℤ entry_of splits v) ∙ ap (λ (i : ℕ). level_f i squares (entry_of splits) (pos d) n) (sym (add-one v));
      near = omega (arith, ap nat_abs next-is, next-near);
    }

pub f-end : {K : ℕ} {squares : ℤ} {s n : ℕ → ℤ} {D : ℤ} (v : ℕ) (z : ℤ) → K ≤ max_edges → K ≤ v → FSoFar K squares s n D v z → (z ≡ level_f K squares s D n) × (nat_abs z ≤ 9000000000000000000)
f-end {K} {squares} {s} {n} {D} v z few h f = let e : v ≡ K = omega (arith, f.here) in
    (f.same ∙ ap (λ (i : ℕ). level_f i squares s D n) e, omega (arith, f.near, mul-le-mul_right {m = v} {n = 125} 100800000000000 (omega (arith, e))))

-- F of one level, of the digits as they are lent
pub level-f : (K L : ℕ) (ns : List ℤ) (t : L * K ≤ length ns) (h : (k : ℕ) → nat_abs (entry_of ns k) < base) (k at : ℕ) (l : k < L) (e : at ≡ k * K) (squares : ℤ) (s : ℕ → ℤ) (D : ℤ)
    → level_f K squares s D (entry_of (rows at ns)) ≡ level_f K squares s D (digit_of K ns k)
level-f K L ns t h k at l e squares s D = ap (λ z. D *ℤ squares -ℤ z) (sum_cong K (λ v _. ap (λ z. z *ℤ s v) (level-at K L ns t h k at l e v)))
