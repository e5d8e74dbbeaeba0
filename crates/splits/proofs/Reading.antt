-- What is read at a pair's place, as the code casts it.
use Rattle.std.proofs.Common.{◌≡◌, ℕ, ◌≤◌, List, get_or, ℤ, pos, nat_abs, ap, ◌∙◌, arith, w64, SFits, to_z, of_z}
use Rattle.exact.proofs.Sign.{fits_abs, back, back-pos}
use Rattle.matrix.specs.Limits.{max_distance}
use Rattle.matrix.specs.Place.{pair_place}
use Rattle.matrix.proofs.Places.{pair-place-sym}
use Rattle.meeting.specs.Meeting.{over}
use Rattle.splits.specs.Sums.{entry_of_two}
use Rattle.splits.proofs.Adding.{max_part, over_abs}

module _ (ds : List ℕ) (near : (k : ℕ) → get_or ds k 0 ≤ max_distance) where
  pub read_fits : (k : ℕ) → SFits w64 (pos (get_or ds k 0))
  read_fits k = fits_abs (pos (get_or ds k 0)) (omega (arith, near k))

  pub read_is : (k : ℕ) → to_z w64 (get_or ds k 0) ≡ pos (get_or ds k 0)
  read_is k = back-pos (get_or ds k 0) (omega (arith, near k))

  pub entry_abs : (i j : ℕ) → nat_abs (entry_of_two ds i j) ≤ max_distance
  entry_abs i j = near (pair_place i j)

  pub entry-part : (j i : ℕ) → nat_abs (entry_of_two ds i j) ≤ max_part
  entry-part j i = omega (arith, entry_abs i j)

  -- of a whole row
  pub row-part : (others j : ℕ) → nat_abs (over others (λ i. entry_of_two ds i j)) ≤ max_part
  row-part others j = over_abs max_distance others (λ i. entry_of_two ds i j) (λ i. entry_abs i j)

  pub row_read : (others j : ℕ) (x : ℤ) → x ≡ over others (λ i. entry_of_two ds i j) → to_z w64 (of_z w64 x) ≡ over others (λ i. entry_of_two ds i j)
  row_read others j x e = back x (omega (arith, ap nat_abs e, row-part others j)) ∙ e

  -- at the place that the code works out
  pub entry_read : (i j k : ℕ) → k ≡ pair_place i j → to_z w64 (get_or ds k 0) ≡ entry_of_two ds i j
  entry_read i j k e = read_is k ∙ ap (λ (t : ℕ). pos (get_or ds t 0)) e

-- whichever strain is named first
pub entry-sym : (ds : List ℕ) (i j : ℕ) → entry_of_two ds i j ≡ entry_of_two ds j i
entry-sym ds i j = ap (λ (t : ℕ). pos (get_or ds t 0)) (pair-place-sym i j)
