-- The remainder of a pair by its two ways, as the code works it: where its distance stands, and that every step fits.
use Rattle.std.proofs.Common.{◌≡◌, ℕ, ◌+◌, ◌*◌, ◌<◌, ◌≤◌, Bool, true, false, ◌≢◌, List, length, get_or, ℤ, pos, ◌-ℤ◌, ◌*ℤ◌, nat_abs, sym, refl, ap, ◌∙◌, ap₂, mul-le-mul, arith, w64, SFits, to_z, of_z}
use native.Mathlib.Decide.{dec_lt}
use Rattle.exact.proofs.Decide.{by_cases}
use Rattle.exact.proofs.Sign.{nat_abs_sub, fits_abs, back, back-pos}
use Rattle.matrix.specs.Limits.{max_distance, missing}
use Rattle.matrix.specs.Place.{pair_place, measured_of, distance_of}
use Rattle.matrix.proofs.Looking.{known_of, read-measured, read-missing}
use Rattle.matrix.proofs.Places.{place-bound, pair-place-up, pair-place-down}
use Rattle.exact.specs.Table.{entry_of}
use Rattle.lengths.specs.Limits.{max_denominator}
use Rattle.meeting.specs.Meeting.{farthest_way, largest_remainder, Carrying, remainder_by_ways}

pub by_ways_is : (D : ℕ) (ds : List ℕ) (ways : List ℤ) (i j : ℕ) → measured_of ds i j ≡ true → remainder_by_ways D ds ways i j ≡ pos D *ℤ distance_of ds i j -ℤ entry_of ways i -ℤ entry_of ways j
unfolding remainder_by_ways
by_ways_is D ds ways i j m = rw m

pub by_ways_none : (D : ℕ) (ds : List ℕ) (ways : List ℤ) (i j : ℕ) → measured_of ds i j ≡ false → remainder_by_ways D ds ways i j ≡ pos 0
unfolding remainder_by_ways
by_ways_none D ds ways i j m = rw m

module _ {N D : ℕ} {ds : List ℕ} {ways : List ℤ} (w : Carrying N D ds ways) (i j : ℕ) (hi : i < N) (hj : j < N) (apart : i ≢ j) where
  pub slot : pair_place i j < length ds
  slot = by_cases (dec_lt i j)
      (λ l. omega (arith, pair-place-up i j l, place-bound N i j l hj, w.room))
      (λ l. omega (arith, pair-place-down i j (omega arith), place-bound N j i (omega arith) hi, w.room))

  -- what the code reads at the pair's place says whether it is measured
  pub has : (slot' : ℕ) → slot' ≡ pair_place i j → get_or ds slot' 0 ≢ missing → measured_of ds i j ≡ true
  has slot' e n = read-measured ds slot' (pair_place i j) e n

  pub has_not : (slot' : ℕ) → slot' ≡ pair_place i j → get_or ds slot' 0 ≡ missing → pos 0 ≡ remainder_by_ways D ds ways i j
  has_not slot' e m = sym (by_ways_none D ds ways i j (read-missing ds slot' (pair_place i j) e m))

  module _ (slot' : ℕ) (e : slot' ≡ pair_place i j) (m : measured_of ds i j ≡ true) where
    abbrev far : ℕ
    far = get_or ds (pair_place i j) 0

    far-near : far ≤ max_distance
    far-near = omega (arith, w.near (pair_place i j), known_of far m)

    pub read_fits : SFits w64 (pos (get_or ds slot' 0))
    read_fits = rw e (fits_abs (pos far) (omega (arith, far-near)))

    product_small : D * far ≤ max_denominator * max_distance
    product_small = mul-le-mul {n₂ = max_denominator} {m₂ = max_distance} w.most far-near

    -- D times the distance, as it is cast and multiplied
    abbrev code : ℤ
    code = to_z w64 D *ℤ to_z w64 (get_or ds slot' 0)

    scaled : code ≡ pos D *ℤ pos far
    scaled = rw e (ap₂ ◌*ℤ◌ (back-pos D (omega (arith, w.most))) (back-pos far (omega (arith, far-near))))

    scaled-near : nat_abs code ≤ max_denominator * max_distance
    scaled-near = omega (arith, ap nat_abs scaled, product_small)

    pub scaled_fits : SFits w64 code
    scaled_fits = fits_abs code (omega (arith, scaled-near))

    way : (k : ℕ) → to_z w64 (of_z w64 (entry_of ways k)) ≡ entry_of ways k
    way k = back (entry_of ways k) (omega (arith, w.low k))

    -- less the one way
    abbrev less : ℤ
    less = to_z w64 (of_z w64 code) -ℤ to_z w64 (of_z w64 (entry_of ways i))

    less-is : less ≡ pos D *ℤ pos far -ℤ entry_of ways i
    less-is = ap₂ ◌-ℤ◌ (back code (omega (arith, scaled-near)) ∙ scaled) (way i)

    less-near : nat_abs less ≤ largest_remainder
    less-near = omega (arith, ap nat_abs less-is, nat_abs_sub (pos D *ℤ pos far) (entry_of ways i), ap nat_abs scaled, scaled-near, w.low i)

    pub less-fits : SFits w64 less
    less-fits = fits_abs less (omega (arith, less-near))

    -- less the other
    abbrev least : ℤ
    least = to_z w64 (of_z w64 less) -ℤ to_z w64 (of_z w64 (entry_of ways j))

    least-is : least ≡ remainder_by_ways D ds ways i j
    least-is = ap₂ ◌-ℤ◌ (back less (omega (arith, less-near)) ∙ less-is) (way j)
        ∙ ap (λ (k : ℕ). pos D *ℤ pos k -ℤ entry_of ways i -ℤ entry_of ways j) (sym (known_of far m)) ∙ sym (by_ways_is D ds ways i j m)

    least-half : least ≡ less -ℤ entry_of ways j
    least-half = ap₂ ◌-ℤ◌ (back less (omega (arith, less-near))) (way j)

    least-near : nat_abs least ≤ largest_remainder + farthest_way
    least-near = omega (arith, ap nat_abs least-half, nat_abs_sub less (entry_of ways j), less-near, w.low j)

    pub least_fits : SFits w64 least
    least_fits = fits_abs least (omega (arith, least-near))

    pub by_ways_back : to_z w64 (of_z w64 least) ≡ remainder_by_ways D ds ways i j
    by_ways_back = back least (omega (arith, least-near)) ∙ least-is

  -- as far from 0 as any two ways can bring it
  pub by_ways_fits : SFits w64 (remainder_by_ways D ds ways i j)
  by_ways_fits = go (measured_of ds i j) refl
    where
      go : (b : Bool) → measured_of ds i j ≡ b → SFits w64 (remainder_by_ways D ds ways i j)
      go true m = fits_abs (remainder_by_ways D ds ways i j) (omega (arith, ap nat_abs (least-is (pair_place i j) refl m), least-near (pair_place i j) refl m))
      go false m = fits_abs (remainder_by_ways D ds ways i j) (omega (arith, ap nat_abs (by_ways_none D ds ways i j m)))
