-- From what the code reduces to the lengths in lowest terms. The fraction by split sums has the value of the one by
-- averages (`same`), both its numbers are even, so its lowest denominator goes into half of its own, and its value is
-- at most 50,000 from zero.
use mathlib.Core.Path.{◌≡◌, refl, sym, ◌∙◌, ap, ap₂, subst}
use mathlib.Core.Bool.{cond}
use mathlib.Core.List.{[], ◌∷◌}
use Prim.Native.Nat.{ℕ, zero, suc, ◌+◌, ◌*◌, ◌≤◌, ◌<◌, ◌∣◌}
use native.Mathlib.Nat.{mul_comm, mul_assoc, mul-le-mul, le_of_dvd, dvd-mul_right, le_of_mul-le-mul_left}
use native.Mathlib.Decide.{dec_lt}
use native.Mathlib.Omega.{arith}
use borrow.Author.Tests.{lt-ltb, le-ltb}
use lib.Dec.{ltb}
use lib.IntN.{ℤ, pos, negsuc, neg_ℤ, ◌+ℤ◌, ◌-ℤ◌, ◌*ℤ◌, nat_abs}
use Rattle.exact.specs.Order.{◌≤ᶻ◌, ◌<ᶻ◌, Within}
use Rattle.exact.specs.Nearest.{nearest}
use Rattle.exact.proofs.Decide.{by_cases}
use Rattle.exact.proofs.Quote.{by-ring, quote, eq_by, z_sub, z*}
use Rattle.exact.proofs.Order.{mul_cancel, ≤-pos, <-is}
use Rattle.exact.proofs.Linear.{d_atom, lin, lt→, →lt}
use Rattle.exact.proofs.Sign.{nat_abs_mul, nat_abs_sub, nat_abs_add, within→abs, positive-is}
use Rattle.exact.proofs.Rounding.{nearest-near}
use Rattle.tree_theory.specs.Allowed.{Allowed}
use Rattle.exact.specs.Fraction.{Fraction, ◌over◌, lowest_top, lowest_bottom, Lowest}
use Rattle.direct_theory.specs.Children.{child_of, sibling, farther, Resolved}
use Rattle.direct_theory.specs.Averages.{strains_below, neither, size, between}
use Rattle.direct_theory.specs.Formula.{edge_length}
use Rattle.direct_theory.specs.Splits.{split_at, outer_top, outer_bottom, inner_top, inner_bottom, outer_by, inner_by, length_by}
use Rattle.exact.proofs.Divisors.{euclid, lowest-is, lowest-of, lowest-only}
use Rattle.direct_theory.proofs.Quartet.{star_of, edge_of}
use Rattle.direct_theory.proofs.BySplits.{outer-top, inner-top, outer-splits, inner-splits, edge-positive}
use Rattle.direct_theory.proofs.Ranges.{outer-some, outer-bound, outer-within, inner-some, inner_bound, inner-within}
use Rattle.direct_theory.proofs.Around.{first_edge, second-edge, sibling-edge, farther-edge}

-- f is g's value over a denominator that is even, as its numerator is, and not too large
pub record Unreduced (f g : Fraction) : Type 0 where
  pub half : ℤ
  pub rest : ℤ
  pub top-even : f.top ≡ pos 2 *ℤ half
  pub bottom-even : f.bottom ≡ pos 2 *ℤ rest
  pub some : pos 0 <ᶻ f.bottom
  pub most : f.bottom ≤ᶻ pos 268435456
  pub within : Within (pos 50000 *ℤ f.bottom) f.top
  pub same : g.top *ℤ f.bottom ≡ g.bottom *ℤ f.top

module _ (f g : Fraction) (u : Unreduced f g) (num : ℤ) (den : ℕ) (low : Lowest f num den) where
  -- num · rest = den · half
  halves : num *ℤ u.rest ≡ pos den *ℤ u.half
  halves = mul_cancel {k = pos 2} {x = num *ℤ u.rest} {y = pos den *ℤ u.half} (record { lt = tt })
      (by-ring (num ∷ u.rest ∷ []) (search quote depth 20) tt ∙ ap (λ z. num *ℤ z) (sym u.bottom-even) ∙ low.value ∙ ap (λ z. pos den *ℤ z) u.top-even ∙ by-ring (pos den ∷ u.half ∷ []) (search quote depth 20) tt)

  some-rest : pos 0 <ᶻ u.rest
  some-rest = positive u.rest (subst (λ z. pos 0 <ᶻ z) u.bottom-even u.some)
    where
      positive : (z : ℤ) → pos 0 <ᶻ pos 2 *ℤ z → pos 0 <ᶻ z
      positive z h = let A = d_atom z in →lt (search lin) (omega (arith, lt→ (search lin) h))

  goes : den ∣ nat_abs u.rest
  goes = euclid (nat_abs num) den (nat_abs u.rest) low.lowest
      (subst (λ z. den ∣ z) (sym (nat_abs_mul (pos den) u.half) ∙ ap nat_abs (sym halves) ∙ nat_abs_mul num u.rest) (dvd-mul_right den (nat_abs u.half)))

  rest-most : nat_abs u.rest ≤ 134217728
  rest-most = omega (arith, ≤-pos {m = 2 * nat_abs u.rest} {n = 268435456} (subst (λ z. z ≤ᶻ pos 268435456) (u.bottom-even ∙ ap (λ z. pos 2 *ℤ z) (positive-is u.rest some-rest)) u.most))

  -- the lowest denominator is at most 134,217,728
  pub bottom-most : den ≤ 134217728
  bottom-most = omega (arith, rest-most, le_of_dvd (≤-pos {m = 1} (subst (λ z. pos 1 ≤ᶻ z) (positive-is u.rest some-rest) (<-is some-rest))) goes)

  -- and the value at most 50,000 from zero
  pub top-near : nat_abs num ≤ 50000 * den
  top-near = le_of_mul-le-mul_left {k = B} (subst (λ z. z ≤ B * (50000 * den)) (mul_comm (nat_abs num) B) (subst (λ z. z ≤ B * (50000 * den)) (sym crossed) bound)) some-B
    where
      B : ℕ
      B = nat_abs f.bottom

      some-B : 1 ≤ B
      some-B = ≤-pos {m = 1} (subst (λ z. pos 1 ≤ᶻ z) (positive-is f.bottom u.some) (<-is u.some))

      crossed : nat_abs num * B ≡ den * nat_abs f.top
      crossed = sym (nat_abs_mul num f.bottom) ∙ ap nat_abs low.value ∙ nat_abs_mul (pos den) f.top

      top≤ : nat_abs f.top ≤ 50000 * B
      top≤ = within→abs (50000 * B) f.top (subst (λ z. Within (pos 50000 *ℤ z) f.top) (positive-is f.bottom u.some) u.within)

      bound : den * nat_abs f.top ≤ B * (50000 * den)
      bound = subst (λ z. den * nat_abs f.top ≤ z) (sym (mul_assoc den 50000 B) ∙ mul_comm (den * 50000) B ∙ ap (λ z. B * z) (mul_comm den 50000)) (mul-le-mul (omega arith) top≤)

  -- g's own lowest terms
  pub value-lowest : Lowest g num den
  value-lowest = lowest-of f g num den u.some (by-ring (f.top ∷ g.bottom ∷ []) (search quote depth 20) tt ∙ sym u.same ∙ by-ring (g.top ∷ f.bottom ∷ []) (search quote depth 20) tt) low

  pub lowest-at : pos 0 <ᶻ g.bottom → (num ≡ lowest_top g) × (den ≡ lowest_bottom g)
  lowest-at h = lowest-only g num (lowest_top g) den (lowest_bottom g) h value-lowest (lowest-is g h)

-- a rounding to thousandths of a value at most 50,000 from zero
pub rounded-near : (den : ℕ) (num : ℤ) → 1 ≤ den → nat_abs num ≤ 50000 * den → nat_abs (nearest den num) ≤ 50000001
rounded-near den num some h = le_of_mul-le-mul_left {k = den} (subst (λ z. z ≤ den * 50000001) (nat_abs_mul (pos den) m) bound) some
  where
    m : ℤ
    m = nearest den num

    off : nat_abs (pos 2 *ℤ (pos 1000 *ℤ num -ℤ pos den *ℤ m)) ≤ den
    off = within→abs den (pos 2 *ℤ (pos 1000 *ℤ num -ℤ pos den *ℤ m)) (nearest-near den num some)

    back : pos 1000 *ℤ num -ℤ (pos 1000 *ℤ num -ℤ pos den *ℤ m) ≡ pos den *ℤ m
    back = by-ring (num ∷ pos den ∷ m ∷ []) (search quote depth 20) tt

    bound : nat_abs (pos den *ℤ m) ≤ den * 50000001
    bound = subst (λ z. nat_abs z ≤ den * 50000001) back
        (omega (arith, h, off, nat_abs_mul (pos 2) (pos 1000 *ℤ num -ℤ pos den *ℤ m), nat_abs_mul (pos 1000) num, nat_abs_sub (pos 1000 *ℤ num) (pos 1000 *ℤ num -ℤ pos den *ℤ m)))

-- ---- at an edge
module _ (N K : ℕ) (par : ℕ → ℕ) (ok : Allowed N K par) (res : Resolved N K par) (d : ℕ × ℕ → ℤ) (range : (p : ℕ × ℕ) → (pos 0 ≤ᶻ d p) × (d p ≤ᶻ pos 50000)) where
  outer-unreduced : (c : ℕ) → c < N → Unreduced (outer_by N K par (split_at N par d) c) (edge_length N K par d c)
  outer-unreduced c k = let l : c < K = omega (arith, ok.edges) in record {
    half = star_of (pos 1) (size N (strains_below par (sibling K par c))) (size N (neither par c (sibling K par c)))
        (between N d (strains_below par c) (strains_below par (sibling K par c))) (between N d (strains_below par c) (neither par c (sibling K par c))) (between N d (strains_below par (sibling K par c)) (neither par c (sibling K par c)));
    rest = pos 2 *ℤ (size N (strains_below par (sibling K par c)) *ℤ size N (neither par c (sibling K par c)));
    top-even = outer-top N K par ok res d c k;
    bottom-even = by-ring (size N (strains_below par (sibling K par c)) ∷ size N (neither par c (sibling K par c)) ∷ []) (search quote depth 20) tt;
    some = outer-some N K par ok res c l;
    most = outer-bound N K par ok res c k;
    within = outer-within N K par ok res d range c k;
    same = outer-splits N K par ok res d c k;
  }

  inner-unreduced : (c : ℕ) → N ≤ c → c < K → Unreduced (inner_by N K par (split_at N par d) c) (edge_length N K par d c)
  inner-unreduced c h l = let a = size N (strains_below par (child_of K par c 0)) in let b = size N (strains_below par (child_of K par c 1)) in let x = size N (strains_below par (sibling K par c)) in let y = size N (neither par c (sibling K par c)) in
      let A = strains_below par (child_of K par c 0) in let B = strains_below par (child_of K par c 1) in let C = strains_below par (sibling K par c) in let E = neither par c (sibling K par c) in let S = between N d in record {
        half = edge_of a b x y (S A B) (S A C) (S A E) (S B C) (S B E) (S C E);
        rest = pos 2 *ℤ (a *ℤ b *ℤ (x *ℤ y)) *ℤ ((a +ℤ b) *ℤ (x +ℤ y));
        top-even = inner-top N K par ok res d c h l;
        bottom-even = by-ring (a ∷ b ∷ x ∷ y ∷ []) (search quote depth 20) tt;
        some = inner-some N K par ok res c h l;
        most = inner_bound N K par ok res c h l;
        within = inner-within N K par ok res d range c h l;
        same = inner-splits N K par ok res d c h l;
      }

  -- over tables that hold the split sums
  module _ (σ : ℕ → ℤ) (is : (v : ℕ) → v < K → σ v ≡ split_at N par d v) where
    outer_same : (c : ℕ) → c < K → outer_by N K par σ c ≡ outer_by N K par (split_at N par d) c
    outer_same c l = rw (is c l, is (sibling K par c) (sibling-edge N K par ok res c l), is (farther K par c) (farther-edge N K par ok res c l))

    inner-same : (c : ℕ) → N ≤ c → c < K → inner_by N K par σ c ≡ inner_by N K par (split_at N par d) c
    inner-same c h l = rw (is c l, is (child_of K par c 0) (first_edge N K par ok res c h l), is (child_of K par c 1) (second-edge N K par ok res c h l), is (sibling K par c) (sibling-edge N K par ok res c l), is (farther K par c) (farther-edge N K par ok res c l))

    pub unreduced : (c : ℕ) → c < K → Unreduced (length_by N K par σ c) (edge_length N K par d c)
    unreduced c l = by_cases (dec_lt c N)
        (λ k. subst (λ f. Unreduced f (edge_length N K par d c)) (sym (here k ∙ outer_same c l)) (outer-unreduced c k))
        (λ k. let h : N ≤ c = omega arith in subst (λ f. Unreduced f (edge_length N K par d c)) (sym (there h ∙ inner-same c h l)) (inner-unreduced c h l))
      where
        here : c < N → length_by N K par σ c ≡ outer_by N K par σ c
        here k = ap (λ b. cond b (outer_by N K par σ c) (inner_by N K par σ c)) (lt-ltb c N k)

        there : N ≤ c → length_by N K par σ c ≡ inner_by N K par σ c
        there h = ap (λ b. cond b (outer_by N K par σ c) (inner_by N K par σ c)) (le-ltb c N h)
