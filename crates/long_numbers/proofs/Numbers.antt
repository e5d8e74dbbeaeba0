-- The numbers by their levels.
use mathlib.Core.Path.{◌≡◌, refl, sym, ◌∙◌, ap, ap₂, subst, fun_ext}
use mathlib.Core.Bool.{Bool, true, false}
use mathlib.Core.List.{List, [], ◌∷◌}
use Prim.Native.Nat.{ℕ, zero, suc, ◌+◌, ◌*◌, ◌≤◌, ◌<◌}
use native.Mathlib.Nat.{mul-le-mul_right}
use native.Mathlib.Numerals.{add-one}
use native.Mathlib.Omega.{arith}
use lib.IntN.{ℤ, pos, neg_ℤ, nat_abs, ◌+ℤ◌, ◌-ℤ◌, ◌*ℤ◌}
use lib.ListN.{length, get_or}
use lib.Signed.{lt_z}
use mir.Syntax.{w64}
use mir.Val.{to_z, of_z}
use Rattle.exact.specs.Order.{◌≤ᶻ◌, ◌<ᶻ◌}
use Rattle.exact.specs.Sum.{sum, pairs, ind}
use Rattle.exact.specs.Table.{table, entry_of}
use Rattle.exact.specs.LeastSquares.{edge_sum, sum_f}
use Rattle.exact.specs.Fits.{Fits63}
use Rattle.exact.proofs.Quote.{by-ring, quote}
use Rattle.exact.proofs.Order.{le-by, nn+, nn_sub, nn-pos, <-is, ≤_trans}
use Rattle.exact.proofs.Sign.{nat_abs_neg, abs→within, back}
use Rattle.exact.proofs.Sum.{sum_cong, pairs-sums, S-cong, S-sq}
use Rattle.exact.proofs.Sweep.{sum_abs, pairs_abs, ind_abs}
use Rattle.exact.proofs.Fill.{length-table, get_or_table_const}
use Rattle.matrix.specs.Place.{distance, place}
use Rattle.tree_theory.specs.Limits.{max_edges}
use Rattle.fit_theory.specs.Quantities.{parts_in}
use Rattle.fit_theory.proofs.Ranges.{mul_abs}
use Rattle.fit_theory.proofs.Zeros.{yes-less, no_less}
use Rattle.paths.proofs.Bounds.{few-edges}
use Rattle.pairs.specs.Ready.{Ready, InRange}
use Rattle.edge_sums.specs.Sums.{EdgeSums}
use Rattle.long_digits.specs.Digits.{base, value, natural}
use Rattle.long_digits.specs.Clamp.{clamp, most}
use Rattle.long_digits.proofs.Values.{value-suc, value_none, value_cong, value_pos, sum-value}
use Rattle.long_digits.proofs.Clamps.{sign_below, clamp_in, clamp-next, clamp-near}
use Rattle.long_digits.proofs.Sums.{sum_f-value, split-F, squares_are, splits_are}
use Rattle.long_theory.specs.Long.{max_levels, digit_of, long_denominator, long_numerator}
use Rattle.long_sums.specs.Ready.{LongReady}
use Rattle.long_carrying.specs.Carried.{Carried}
use Rattle.long_levels.specs.Levels.{LevelTable, Splits, level_f}
use Rattle.long_numbers.specs.Wides.{Natural, Wides}

-- ---- the sign
pub record Signing (L : ℕ) (f : ℕ → ℤ) (k : ℕ) (z : ℤ) : Type 0 where
  pub here : k ≤ L
  pub same : z ≡ clamp most (value k f)

module _ (L : ℕ) (f : ℕ → ℤ) (near : (k : ℕ) → k < L → nat_abs (f k) ≤ 999999 * most) where
  pub sign-start : Signing L f 0 (pos 0)
  sign-start = record { here = omega arith; same = sym (ap (clamp most) (value_none f) ∙ clamp_in most (pos 0) (omega arith)) }

  pub sign-near : (k : ℕ) (z : ℤ) → Signing L f k z → nat_abs z ≤ most
  sign-near k z s = omega (arith, ap nat_abs s.same, clamp-near most (value k f))

  pub sign-turn : (k : ℕ) (z y : ℤ) → k < L → Signing L f k z → y ≡ clamp most (pos base *ℤ z +ℤ f k) → Signing L f (k + 1) y
  sign-turn k z y l s e = rw add-one (record { here = l; same = e ∙ ap (λ x. clamp most (pos base *ℤ x +ℤ f k)) s.same ∙ clamp-next most (f k) (near k l) (value k f) ∙ ap (clamp most) (sym (value-suc k f)) })

  pub sign-end : (k : ℕ) (z : ℤ) → L ≤ k → Signing L f k z → z ≡ clamp most (value L f)
  sign-end k z h s = let e : k ≡ L = omega (arith, s.here) in s.same ∙ ap (λ (i : ℕ). clamp most (value i f)) e

-- ---- levels, as they stand in their array
table-value : {L : ℕ} {g : ℕ → ℤ} {r : List ℤ} → LevelTable L g r → value L (entry_of r) ≡ value L g
table-value {L} {g} {r} t = value_cong L t.entries

pub table-near : {L : ℕ} {g : ℕ → ℤ} {r : List ℤ} → LevelTable L g r → (k : ℕ) → k < L → nat_abs (entry_of r k) ≤ 9000000000000000000
table-near t k l = omega (arith, ap nat_abs (t.entries k l), t.near k l)

natural-is : (n : ℕ) (z : ℤ) → pos n ≡ z → n ≡ nat_abs z
natural-is n z e = ap nat_abs e

-- digits that were carried
pub carried_natural : {L : ℕ} {g : ℕ → ℤ} {r : List ℤ} {digits : List ℕ} → LevelTable L g r → Carried L (entry_of r) digits → Natural L (nat_abs (value L g)) digits
carried_natural {L} {g} {r} {digits} t c = record { size = c.size; small = c.small; same = natural-is (natural (L + 3) (λ k. get_or digits k 0)) (value L g) (c.same ∙ table-value t) }

value-other : (L : ℕ) (f : ℕ → ℤ) → value L (λ k. pos 0 -ℤ f k) ≡ pos 0 -ℤ value L f
unfolding value
value-other zero f = refl
value-other (suc L) f = ap (λ z. pos base *ℤ z +ℤ (pos 0 -ℤ f L)) (value-other L f) ∙ by-ring (value L f ∷ f L ∷ []) (search quote depth 20) tt

other-is : (z : ℤ) → pos 0 -ℤ z ≡ neg_ℤ z
other-is z = by-ring (z ∷ []) (search quote depth 20) tt

other_abs : (z : ℤ) → nat_abs (pos 0 -ℤ z) ≡ nat_abs z
other_abs z = ap nat_abs (other-is z) ∙ nat_abs_neg z

-- ---- the tree length
pub total-value : (K L : ℕ) (ns : List ℤ) → sum K (long_numerator L K ns) ≡ value L (λ k. sum K (digit_of K ns k))
total-value K L ns = sum-value K L (digit_of K ns)

pub total-near : (K L : ℕ) (ns : List ℤ) {r : List ℤ} → LevelTable L (λ k. sum K (digit_of K ns k)) r → K ≤ max_edges → ((k : ℕ) → nat_abs (entry_of ns k) < base) → (k : ℕ) → k < L → nat_abs (entry_of r k) ≤ 999999 * most
total-near K L ns {r} t few tops k l = omega (arith, ap nat_abs (t.entries k l), sum_abs K base (digit_of K ns k) (λ v _. omega (arith, tops (k * K + v))), mul-le-mul_right base few)

module _ (K L : ℕ) (ns : List ℤ) {r : List ℤ} (t : LevelTable L (λ k. sum K (digit_of K ns k)) r) where
  whole : value L (entry_of r) ≡ sum K (long_numerator L K ns)
  whole = table-value t ∙ sym (total-value K L ns)

  below : (y : ℤ) → y ≡ clamp most (value L (entry_of r)) → lt_z y (pos 0) ≡ lt_z (sum K (long_numerator L K ns)) (pos 0)
  below y e = ap (λ z. lt_z z (pos 0)) e ∙ sign_below 999999999999 (value L (entry_of r)) ∙ ap (λ z. lt_z z (pos 0)) whole

  -- not negative: the levels as they are
  pub total-up : (y : ℤ) → y ≡ clamp most (value L (entry_of r)) → lt_z y (pos 0) ≡ false → pos 0 ≤ᶻ value L (entry_of r)
  total-up y e q = no_less (sym (ap (λ z. lt_z z (pos 0)) e ∙ sign_below 999999999999 (value L (entry_of r))) ∙ q)

  pub wide_up : (y : ℤ) → y ≡ clamp most (value L (entry_of r)) → lt_z y (pos 0) ≡ false → {digits : List ℕ} → Carried L (entry_of r) digits → Wides L (sum K (long_numerator L K ns)) false digits
  wide_up y e q {digits} c = record { sign = sym q ∙ below y e; magnitude = subst (λ (z : ℤ). Natural L (nat_abs z) digits) (sym (total-value K L ns)) (carried_natural t c) }

  -- negative: those with the other sign
  module _ {others : List ℤ} (o : LevelTable L (λ k. pos 0 -ℤ entry_of r k) others) where
    other-value : value L (entry_of others) ≡ pos 0 -ℤ value L (entry_of r)
    other-value = table-value o ∙ value-other L (entry_of r)

    pub total-down : (y : ℤ) → y ≡ clamp most (value L (entry_of r)) → lt_z y (pos 0) ≡ true → pos 0 ≤ᶻ value L (entry_of others)
    total-down y e q = subst (λ z. pos 0 ≤ᶻ z) (sym other-value) (turned (value L (entry_of r)) (yes-less (sym (ap (λ z. lt_z z (pos 0)) e ∙ sign_below 999999999999 (value L (entry_of r))) ∙ q)))
      where
        turned : (z : ℤ) → z <ᶻ pos 0 → pos 0 ≤ᶻ pos 0 -ℤ z
        turned z l = le-by (nn+ (nn_sub (<-is l)) (nn-pos 1)) (by-ring (z ∷ []) (search quote depth 20) tt)

    pub wide-down : (y : ℤ) → y ≡ clamp most (value L (entry_of r)) → lt_z y (pos 0) ≡ true → {digits : List ℕ} → Carried L (entry_of others) digits → Wides L (sum K (long_numerator L K ns)) true digits
    wide-down y e q {digits} c = record {
      sign = sym q ∙ below y e;
      magnitude = subst (λ (n : ℕ). Natural L n digits) (ap nat_abs (value-other L (entry_of r)) ∙ other_abs (value L (entry_of r)) ∙ ap nat_abs whole) (carried_natural o c);
    }

-- ---- D times a count
value-scaled : (L : ℕ) (f : ℕ → ℤ) (c : ℤ) → value L (λ k. f k *ℤ c) ≡ value L f *ℤ c
unfolding value
value-scaled zero f c = by-ring (c ∷ []) (search quote depth 20) tt
value-scaled (suc L) f c = ap (λ z. pos base *ℤ z +ℤ f L *ℤ c) (value-scaled L f c) ∙ by-ring (value L f ∷ f L ∷ c ∷ []) (search quote depth 20) tt

pub times-value : (L : ℕ) (Ds : List ℕ) (count : ℕ) → value L (λ k. pos (get_or Ds k 0) *ℤ pos count) ≡ pos (long_denominator L Ds * count)
times-value L Ds count = value-scaled L (λ k. pos (get_or Ds k 0)) (pos count) ∙ ap (λ z. z *ℤ pos count) (value_pos L (λ k. get_or Ds k 0))

pub times-up : (L : ℕ) (Ds : List ℕ) (count : ℕ) {r : List ℤ} → LevelTable L (λ k. pos (get_or Ds k 0) *ℤ pos count) r → pos 0 ≤ᶻ value L (entry_of r)
times-up L Ds count {r} t = subst (λ z. pos 0 ≤ᶻ z) (sym (table-value t ∙ times-value L Ds count)) (nn-pos (long_denominator L Ds * count))

pub times-natural : (L : ℕ) (Ds : List ℕ) (count : ℕ) {r : List ℤ} {digits : List ℕ} → LevelTable L (λ k. pos (get_or Ds k 0) *ℤ pos count) r → Carried L (entry_of r) digits
    → Natural L (long_denominator L Ds * count) digits
times-natural L Ds count {r} {digits} t c = subst (λ (n : ℕ). Natural L n digits) (ap nat_abs (times-value L Ds count)) (carried_natural t c)

-- ---- F
module _ {N K L : ℕ} {Ds ds ps cs : List ℕ} {ns : List ℤ} (w : LongReady N K L Ds ds ps cs ns) {zeros : List ℤ} (e : zeros ≡ table max_edges (λ _. pos 0)) where
  abbrev S : (ℕ × ℕ → ℤ) → ℤ
  S = pairs N

  none : (v : ℕ) → entry_of zeros v ≡ pos 0
  none v = ap (λ (l : List ℤ). entry_of l v) e ∙ get_or_table_const max_edges (pos 0) v

  no_lengths : entry_of zeros ≡ (λ _. pos 0)
  no_lengths = fun_ext none

  few : K ≤ max_edges
  few = few-edges w.standing

  near : (p : ℕ × ℕ) → nat_abs (distance ds p) ≤ 50000
  near p = w.near (place p.0 p.1)

  long : length zeros ≡ max_edges
  long = ap length e ∙ length-table max_edges (λ (_ : ℕ). pos 0)

  pub none-ready : Ready N K 1 ds ps cs zeros
  none-ready = record {
    standing = w.standing;
    most = omega arith;
    room = w.room;
    near = w.near;
    small = record { room = omega (arith, few, long); near = λ v l. omega (arith, ap nat_abs (none v)) };
  }

  pub none-range : InRange K zeros
  none-range = record { room = omega (arith, few, long); near = λ v l. omega (arith, ap nat_abs (none v)) }

  abbrev squares : ℤ
  squares = sum_f S K (parts_in ds ps) (distance ds) (pos 1) (entry_of zeros)

  squares-of : squares ≡ S (λ p. distance ds p *ℤ distance ds p)
  squares-of = ap (λ (x : ℕ → ℤ). sum_f S K (parts_in ds ps) (distance ds) (pos 1) x) no_lengths ∙ squares_are (pairs-sums N) K (parts_in ds ps) (distance ds)

  squares-near : nat_abs squares ≤ 5040000000000
  squares-near = omega (arith, ap nat_abs squares-of, pairs_abs N 2500000000 (λ p. distance ds p *ℤ distance ds p) w.standing.allowed.few (λ p. mul_abs (distance ds p) (distance ds p) 50000 50000 (near p) (near p)))

  pub squares-fits : Fits63 squares
  squares-fits = record { low = subst (λ z. pos 0 ≤ᶻ z) (sym squares-of) (S-sq (pairs-sums N) (distance ds)); high = ≤_trans (abs→within 5040000000000 squares squares-near).high (record { le = tt }) }

  -- what the two sums give
  module _ {sq : ℤ} (s : sq ≡ squares) {sums : List ℤ} (t : EdgeSums N K 1 ds ps zeros sums) where
    split-of : (v : ℕ) → v < K → entry_of sums v ≡ edge_sum S K (parts_in ds ps) (distance ds) (pos 1) (λ _. pos 0) v
    split-of v l = t.entries v l ∙ ap (λ (x : ℕ → ℤ). edge_sum S K (parts_in ds ps) (distance ds) (pos 1) x v) no_lengths

    pub splits : Splits K sq sums
    splits = record {
      few = few;
      whole = omega (arith, ap nat_abs s, squares-near);
      size = t.size;
      each = λ v l. omega (
        arith,
        ap nat_abs (split-of v l ∙ splits_are (pairs-sums N) K (parts_in ds ps) (distance ds) v),
        pairs_abs N 50000 (λ p. ind (parts_in ds ps v p) *ℤ distance ds p) w.standing.allowed.few (λ p. omega (arith, ind_abs (parts_in ds ps v p) (distance ds p), near p)),
      );
    }

    level-is : (D : ℤ) (n : ℕ → ℤ) → level_f K sq (entry_of sums) D n ≡ sum_f S K (parts_in ds ps) (distance ds) D n
    level-is D n = ap₂ (λ x y. D *ℤ x -ℤ y) (s ∙ ap (λ (x : ℕ → ℤ). sum_f S K (parts_in ds ps) (distance ds) (pos 1) x) no_lengths) (sum_cong K (λ v l. ap (λ z. n v *ℤ z) (split-of v l)))
        ∙ sym (split-F (pairs-sums N) K (parts_in ds ps) (distance ds) D n)

    pub f-value : value L (λ k. level_f K sq (entry_of sums) (pos (get_or Ds k 0)) (digit_of K ns k)) ≡ sum_f S K (parts_in ds ps) (distance ds) (pos (long_denominator L Ds)) (long_numerator L K ns)
    f-value = value_cong L (λ k _. level-is (pos (get_or Ds k 0)) (digit_of K ns k))
        ∙ sym (sum_f-value (pairs-sums N) K (parts_in ds ps) (distance ds) L (λ k. pos (get_or Ds k 0)) (digit_of K ns))
        ∙ ap (λ z. sum_f S K (parts_in ds ps) (distance ds) z (long_numerator L K ns)) (value_pos L (λ k. get_or Ds k 0))

    pub f-up : {r : List ℤ} → LevelTable L (λ k. level_f K sq (entry_of sums) (pos (get_or Ds k 0)) (digit_of K ns k)) r
        → pos 0 ≤ᶻ sum_f S K (parts_in ds ps) (distance ds) (pos (long_denominator L Ds)) (long_numerator L K ns) → pos 0 ≤ᶻ value L (entry_of r)
    f-up t h = subst (λ z. pos 0 ≤ᶻ z) (sym (table-value t ∙ f-value)) h

    pub f-natural : {r : List ℤ} {digits : List ℕ} → LevelTable L (λ k. level_f K sq (entry_of sums) (pos (get_or Ds k 0)) (digit_of K ns k)) r → Carried L (entry_of r) digits
        → Natural L (nat_abs (sum_f S K (parts_in ds ps) (distance ds) (pos (long_denominator L Ds)) (long_numerator L K ns))) digits
    f-natural {r} {digits} t c = subst (λ (z : ℤ). Natural L (nat_abs z) digits) f-value (carried_natural t c)

  -- the code's number
  pub squares-back : (x : ℤ) → x ≡ squares → to_z w64 (of_z w64 x) ≡ squares
  squares-back x q = back x (omega (arith, ap nat_abs q, squares-near)) ∙ q
