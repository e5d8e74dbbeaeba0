-- The search by halving, and that it ends at the nearest.
use mathlib.Core.Path.{◌≡◌, refl, sym, ◌∙◌, ap, subst}
use mathlib.Core.Bool.{Bool, true, false}
use mathlib.Core.List.{[], ◌∷◌}
use mathlib.Core.Logic.{◌⊎◌, inl, inr}
use Prim.Native.Nat.{ℕ, zero, suc, ◌+◌, ◌*◌, ◌-◌, ◌%◌, ◌≤◌, ◌<◌}
use native.Mathlib.Omega.{arith}
use lib.IntN.{ℤ, pos, negsuc, neg_ℤ, nat_abs, ◌+ℤ◌, ◌-ℤ◌, ◌*ℤ◌}
use lib.Signed.{lt_z}
use lib.Dec.{ltb→lt}
use borrow.Author.Tests.{eqb-true}
use mir.Syntax.{w64}
use mir.Val.{SFits, to_z, of_z}
use Rattle.exact.specs.Order.{◌≤ᶻ◌, ◌<ᶻ◌, Within}
use Rattle.exact.proofs.Decide.{eq_yes}
use Rattle.exact.specs.Nearest.{nearest, IsNearest}
use Rattle.exact.proofs.Quote.{by-ring, quote}
use Rattle.exact.proofs.Linear.{lin, →eq}
use Rattle.exact.proofs.Order.{le-by, nn+, nn*, nn-pos, nn_sub, is-<, <-is, pos-≤, ≤-antisym, ≤-of-≡}
use Rattle.exact.proofs.Sign.{abs→within, within→abs, nat_abs_neg, lt_or_ge, back, back-pos, fits_abs}
use Rattle.exact.proofs.Rounding.{nearest-only}
use Rattle.long_digits.specs.Clamp.{clamp, most}
use Rattle.long_digits.proofs.Clamps.{sign_zero, sign_below, clamp-near, clamp_in}
use Rattle.fit_theory.proofs.Zeros.{yes-less, negative_not, abs_zero}
use Rattle.long_theory.specs.Long.{max_length}
use Rattle.long_rounding.specs.Ready.{reach_of, Greatest}

-- the search so far
pub record Searching (D n : ℤ) (low high : ℕ) : Type 0 where
  pub apart : low < high
  pub most : high ≤ 200000000001
  pub reaches : pos 0 ≤ᶻ reach_of D n low
  pub fails : reach_of D n high <ᶻ pos 0

-- over whole numbers t in place of pos u
at : ℤ → ℤ → ℤ → ℤ
at D n t = pos 2000 *ℤ n +ℤ (pos 200000000001 -ℤ pos 2 *ℤ t) *ℤ D

start-low : (D n : ℤ) → Within (pos 100000000 *ℤ D) n → pos 0 ≤ᶻ D → pos 0 ≤ᶻ at D n (pos 0)
unfolding at
start-low D n w p = le-by (nn+ (nn* (nn-pos 2000) (nn_sub w.low)) p) (by-ring (D ∷ n ∷ []) (search quote depth 20) tt)

start-high : (D n : ℤ) → Within (pos 100000000 *ℤ D) n → pos 1 ≤ᶻ D → at D n (pos 200000000001) <ᶻ pos 0
unfolding at
start-high D n w p = is-< (le-by (nn+ (nn* (nn-pos 2000) (nn_sub w.high)) (nn_sub p)) (by-ring (D ∷ n ∷ []) (search quote depth 20) tt))

pub search_start : (D : ℕ) (n : ℤ) → 1 ≤ D → nat_abs n ≤ max_length * D → Searching (pos D) n 0 200000000001
unfolding at
search_start D n one near = let w = abs→within (max_length * D) n near in record {
  apart = omega arith;
  most = omega arith;
  reaches = start-low (pos D) n w (nn-pos D);
  fails = start-high (pos D) n w (pos-≤ one);
}

next-at : (D n t : ℤ) → at D n t ≡ at D n (t +ℤ pos 1) +ℤ pos 2 *ℤ D
unfolding at
next-at D n t = by-ring (D ∷ n ∷ t ∷ []) (search quote depth 20) tt

less-add : (a b : ℤ) → a <ᶻ pos 0 → a +ℤ b <ᶻ b
less-add a b l = is-< (le-by (nn_sub (<-is l)) (by-ring (a ∷ b ∷ []) (search quote depth 20) tt))

pub search_end : (D n : ℤ) (low high : ℕ) → high ≤ low + 1 → Searching D n low high → Greatest D n low
unfolding at
search_end D n low high h s = let e : high ≡ low + 1 = omega (arith, s.apart) in record {
  most = omega (arith, s.most, s.apart);
  low = s.reaches;
  high = subst (λ z. z <ᶻ pos 2 *ℤ D) (sym (next-at D n (pos low))) (less-add (at D n (pos low +ℤ pos 1)) (pos 2 *ℤ D) (subst (λ (k : ℕ). reach_of D n k <ᶻ pos 0) e s.fails));
}

-- a turn: the code's test of the number cut off is the test of the number
pub turn-down : (D n : ℤ) (low high mid : ℕ) (y : ℤ) → low < mid → mid < high → y ≡ clamp most (reach_of D n mid) → lt_z y (pos 0) ≡ true → Searching D n low high → Searching D n low mid
turn-down D n low high mid y a b e t s = record {
  apart = a;
  most = omega (arith, s.most);
  reaches = s.reaches;
  fails = yes-less (sym (ap (λ z. lt_z z (pos 0)) e ∙ sign_below 999999999999 (reach_of D n mid)) ∙ t);
}

pub turn_up : (D n : ℤ) (low high mid : ℕ) (y : ℤ) → low < mid → mid < high → y ≡ clamp most (reach_of D n mid) → lt_z y (pos 0) ≡ false → Searching D n low high → Searching D n mid high
turn_up D n low high mid y a b e t s = record {
  apart = b;
  most = s.most;
  reaches = negative_not (reach_of D n mid) (sym (ap (λ z. lt_z z (pos 0)) e ∙ sign_below 999999999999 (reach_of D n mid)) ∙ t);
  fails = s.fails;
}

-- ---- the nearest
-- twice D times what m = t - 10^11 is off, by the reach
off_at : (D n t : ℤ) → pos 2 *ℤ (pos 1000 *ℤ n -ℤ D *ℤ (t -ℤ pos 100000000000)) ≡ at D n t -ℤ D
unfolding at
off_at D n t = by-ring (D ∷ n ∷ t ∷ []) (search quote depth 20) tt

off-tie : (D n t : ℤ) → pos 2 *ℤ (pos 1000 *ℤ n -ℤ D *ℤ (t -ℤ pos 100000000001)) ≡ at D n t +ℤ D
unfolding at
off-tie D n t = by-ring (D ∷ n ∷ t ∷ []) (search quote depth 20) tt

within-off : (D c : ℤ) → pos 0 ≤ᶻ c → c <ᶻ pos 2 *ℤ D → Within D (c -ℤ D)
within-off D c l h = record {
  low = le-by l (by-ring (D ∷ c ∷ []) (search quote depth 20) tt);
  high = le-by (nn+ (nn_sub (<-is h)) (nn-pos 1)) (by-ring (D ∷ c ∷ []) (search quote depth 20) tt);
}

-- how far u is from an even number has u's parity
parity : (u m : ℕ) → nat_abs (pos u -ℤ pos m) ≡ (u - m) + (m - u)
parity u m = go (lt_or_ge u m)
  where
    go : (u < m) ⊎ (m ≤ u) → nat_abs (pos u -ℤ pos m) ≡ (u - m) + (m - u)
    go (inl l) =
        let f : pos u -ℤ pos m ≡ neg_ℤ (pos (m - u)) = →eq (search lin) (omega arith) in
        omega (arith, ap nat_abs f, nat_abs_neg (pos (m - u)))
    go (inr l) =
        let f : pos u -ℤ pos m ≡ pos (u - m) = →eq (search lin) (omega arith) in
        omega (arith, ap nat_abs f)

-- a number between -D and D, the upper end left out, that is D from 0 is -D
at-tie : (D : ℕ) (c : ℤ) → c <ᶻ pos 2 *ℤ pos D → pos 0 ≤ᶻ c → nat_abs (c -ℤ pos D) ≡ D → c ≡ pos 0
at-tie D (pos k) h l e = ap pos (omega (arith, parity k D, ltb-of k (2 * D) h))
  where
    ltb-of : (a b : ℕ) → pos a <ᶻ pos b → a < b
    ltb-of a b t = ltb→lt a b t.lt
at-tie D (negsuc k) h l e = absurd l.le

module _ (D : ℕ) (n : ℤ) (u : ℕ) (one : 1 ≤ D) (g : Greatest (pos D) n u) where
  near : nat_abs (pos 2 *ℤ (pos 1000 *ℤ n -ℤ pos D *ℤ (pos u -ℤ pos 100000000000))) ≤ D
  unfolding at
  near = subst (λ z. nat_abs z ≤ D) (sym (off_at (pos D) n (pos u))) (within→abs D (reach_of (pos D) n u -ℤ pos D) (within-off (pos D) (reach_of (pos D) n u) g.low g.high))

  tie : nat_abs (pos 2 *ℤ (pos 1000 *ℤ n -ℤ pos D *ℤ (pos u -ℤ pos 100000000000))) ≡ D → reach_of (pos D) n u ≡ pos 0
  unfolding at
  tie e = at-tie D (reach_of (pos D) n u) g.high g.low (ap nat_abs (sym (off_at (pos D) n (pos u))) ∙ e)

  -- an even u, or one that is not at a tie
  pub even-nearest : u % 2 ≡ 0 → pos u -ℤ pos 100000000000 ≡ nearest D n
  even-nearest h = nearest-only D n (pos u -ℤ pos 100000000000) one (record { near = near; even = λ _. omega (arith, parity u 100000000000) })

  pub plain-nearest : (reach_of (pos D) n u ≡ pos 0 → ⊥) → pos u -ℤ pos 100000000000 ≡ nearest D n
  plain-nearest h = nearest-only D n (pos u -ℤ pos 100000000000) one (record { near = near; even = λ e. absurd (h (tie e)) })

  -- an odd u at a tie: the even neighbour is below
  pub tie-nearest : (u % 2 ≡ 0 → ⊥) → reach_of (pos D) n u ≡ pos 0 → pos u -ℤ pos 100000000001 ≡ nearest D n
  unfolding at
  tie-nearest odd z =
      let e : nat_abs (pos 2 *ℤ (pos 1000 *ℤ n -ℤ pos D *ℤ (pos u -ℤ pos 100000000001))) ≡ D = ap nat_abs (off-tie (pos D) n (pos u) ∙ ap (λ x. x +ℤ pos D) z) ∙ omega arith in
      nearest-only D n (pos u -ℤ pos 100000000001) one (record { near = omega (arith, e); even = λ _. let o : u % 2 ≡ 1 = omega (arith, odd) in omega (arith, parity u 100000000001) })

-- ---- the code's numbers
pub bits : (y z : ℤ) → y ≡ clamp most z → to_z w64 (of_z w64 y) ≡ clamp most z
bits y z e = back y (omega (arith, ap nat_abs e, clamp-near most z)) ∙ e

module _ (u : ℕ) (h : u ≤ 200000000001) where
  twice : to_z w64 u ≡ pos u
  twice = back-pos u (omega arith)

  pub twice-fits : SFits w64 (pos 2 *ℤ to_z w64 u)
  twice-fits = rw twice (fits_abs (pos (2 * u)) (omega arith))

  twice-is : to_z w64 (of_z w64 (pos 2 *ℤ to_z w64 u)) ≡ pos 2 *ℤ pos u
  twice-is = ap (λ z. to_z w64 (of_z w64 (pos 2 *ℤ z))) twice ∙ back (pos (2 * u)) (omega arith)

  factor_near : nat_abs (pos 200000000001 -ℤ pos 2 *ℤ pos u) ≤ 200000000001
  factor_near = omega (arith, parity 200000000001 (2 * u))

  pub factor_fits : SFits w64 (pos 200000000001 -ℤ to_z w64 (of_z w64 (pos 2 *ℤ to_z w64 u)))
  factor_fits = rw twice-is (fits_abs (pos 200000000001 -ℤ pos 2 *ℤ pos u) (omega (arith, factor_near)))

  pub factor_is : to_z w64 (of_z w64 (pos 200000000001 -ℤ to_z w64 (of_z w64 (pos 2 *ℤ to_z w64 u)))) ≡ pos 200000000001 -ℤ pos 2 *ℤ pos u
  factor_is = ap (λ z. to_z w64 (of_z w64 (pos 200000000001 -ℤ z))) twice-is ∙ back (pos 200000000001 -ℤ pos 2 *ℤ pos u) (omega (arith, factor_near))

  pub factor_low : nat_abs (to_z w64 (of_z w64 (pos 200000000001 -ℤ to_z w64 (of_z w64 (pos 2 *ℤ to_z w64 u))))) ≤ 200000000001
  factor_low = omega (arith, ap nat_abs factor_is, factor_near)

  module _ (m : ℕ) (k : m ≤ 100000000001) where
    pub result_fits : SFits w64 (to_z w64 u -ℤ pos m)
    result_fits = rw twice (fits_abs (pos u -ℤ pos m) (omega (arith, parity u m)))

    pub result_is : to_z w64 (of_z w64 (to_z w64 u -ℤ pos m)) ≡ pos u -ℤ pos m
    result_is = ap (λ z. to_z w64 (of_z w64 (z -ℤ pos m))) twice ∙ back (pos u -ℤ pos m) (omega (arith, parity u m))

-- how far the result is from 0
pub result_near : (u : ℕ) → u ≤ 200000000000 → (m : ℕ) → 100000000000 ≤ m → m ≤ 100000000001 → (h : u ≤ 200000000001) → nat_abs (to_z w64 (of_z w64 (to_z w64 u -ℤ pos m))) ≤ 100000000001
result_near u few m low high h = omega (arith, ap nat_abs (result_is u h m high), parity u m)

-- a number cut off to 0 is 0, and no other is
pub cut-zero : (y z : ℤ) → y ≡ clamp most z → of_z w64 y ≡ 0 → z ≡ pos 0
cut-zero y z e b = abs_zero z (eqb-true (nat_abs z) 0 (sym (sign_zero 999999999999 z) ∙ eq_yes (ap nat_abs (sym (bits y z e) ∙ ap (to_z w64) b))))

pub zero-cut : (y z : ℤ) → y ≡ clamp most z → (of_z w64 y ≡ 0 → ⊥) → z ≡ pos 0 → ⊥
zero-cut y z e b h = b (ap (of_z w64) (e ∙ ap (clamp most) h ∙ clamp_in most (pos 0) (omega arith)))
