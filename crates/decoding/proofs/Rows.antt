-- The reader of distances goes strain by strain: a strain's distances to those before it go behind all that are read, each from its
-- place in the sheet's rows.
use mathlib.Core.Path.{◌≡◌, refl, sym, ◌∙◌, ap, subst}
use mathlib.Core.List.{List}
use Prim.Native.Nat.{ℕ, ◌+◌, ◌<◌, ◌≤◌}
use native.Mathlib.Decide.{ℕ_discrete}
use native.Mathlib.Numerals.{add-one}
use native.Mathlib.Omega.{arith}
use lib.ListN.{set}
use Rattle.exact.specs.Table.{table, padded}
use Rattle.exact.proofs.Decide.{by_cases}
use Rattle.matrix.specs.Limits.{max_strains, max_pairs}
use Rattle.matrix.specs.Place.{pair_count, place, row_place, from_rows}
use Rattle.matrix.proofs.Places.{count-more, count_room, from-rows, pairs-few}
use Rattle.records.proofs.Decoding.{Decoding, decode_start, decode_of, decode_turn, decode_end}

-- ---- one strain: its distances with 0 to i are read, the last one from `row`
pub record Column (n j first : ℕ) (rows : ℕ → ℕ) (i row : ℕ) (held : List ℕ) : Type 0 where
  pub before : i < j
  pub row_is : row ≡ row_place n i j
  pub decoding : Decoding 0 max_pairs (first + j) (from_rows n rows) (first + i + 1) held

module _ (n j first : ℕ) (rows : ℕ → ℕ) (few : n ≤ max_strains) (strain : j < n) (begins : first ≡ pair_count j) where
  room : first + j ≤ max_pairs
  room = omega (arith, count_room n j strain, pairs-few n few)

  due : (i : ℕ) → i < j → from_rows n rows (first + i) ≡ rows (row_place n i j)
  unfolding place
  due i h = ap (λ (k : ℕ). from_rows n rows (k + i)) begins ∙ from-rows n rows i j h

  one : (i p row v : ℕ) (held : List ℕ) → i < j → p ≡ first + i → row ≡ row_place n i j → v ≡ rows row
      → Decoding 0 max_pairs (first + j) (from_rows n rows) (first + i) held → Column n j first rows i row (set held p v)
  one i p row v held h q e f d = record {
    before = h;
    row_is = e;
    decoding = subst (λ (k : ℕ). Decoding 0 max_pairs (first + j) (from_rows n rows) (first + i + 1) (set held k v)) (sym q)
        (decode_turn 0 max_pairs (first + j) (from_rows n rows) (first + i) held v (omega arith) room (f ∙ ap rows e ∙ sym (due i h)) d);
  }

  pub column-start : (row v : ℕ) (held : List ℕ) → 0 < j → row ≡ row_place n 0 j → v ≡ rows row → held ≡ padded 0 max_pairs first (from_rows n rows)
      → Column n j first rows 0 row (set held first v)
  column-start row v held h e f g = one 0 first row v held h (omega arith) e f
      (subst (λ (k : ℕ). Decoding 0 max_pairs (first + j) (from_rows n rows) k held) (omega arith)
      (decode_of 0 max_pairs (first + j) (from_rows n rows) first held (omega arith) (omega (arith, room)) g))

  pub column-turn : (i row row' v : ℕ) (held : List ℕ) → i + 1 < j → row' ≡ row_place n (i + 1) j → v ≡ rows row' → Column n j first rows i row held
      → Column n j first rows (i + 1) row' (set held (first + i + 1) v)
  column-turn i row row' v held h e f t = one (i + 1) (first + i + 1) row' v held h (omega arith) e f
      (subst (λ (k : ℕ). Decoding 0 max_pairs (first + j) (from_rows n rows) k held) (omega arith) t.decoding)

  pub column-end : (i row : ℕ) (held : List ℕ) → j ≤ i + 1 → Column n j first rows i row held → held ≡ padded 0 max_pairs (first + j) (from_rows n rows)
  column-end i row held h t = decode_end 0 max_pairs (first + j) (from_rows n rows) (first + i + 1) held (omega arith) room t.decoding

-- ---- all: the distances of the strains before j are read
pub record Reading (n : ℕ) (rows : ℕ → ℕ) (j first : ℕ) (held : List ℕ) : Type 0 where
  pub some : 0 < j
  pub begins : first ≡ pair_count j
  pub within : first ≤ pair_count n
  pub holds : held ≡ padded 0 max_pairs first (from_rows n rows)

module _ (n : ℕ) (rows : ℕ → ℕ) where
  pub read-start : (held : List ℕ) → held ≡ table max_pairs (λ _. 0) → Reading n rows 1 0 held
  read-start held e = record {
    some = omega arith;
    begins = refl;
    within = omega arith;
    holds = decode_end 0 max_pairs 0 (from_rows n rows) 0 held (omega arith) (omega arith) (decode_start 0 max_pairs 0 (from_rows n rows) held e);
  }

  module _ {j first : ℕ} {held : List ℕ} (t : Reading n rows j first held) where
    pub read-turn : (held' : List ℕ) → j < n → held' ≡ padded 0 max_pairs (first + j) (from_rows n rows) → Reading n rows (j + 1) (first + j) held'
    read-turn held' more e = record {
      some = omega arith;
      begins = omega (arith, t.begins, count-more j) ∙ ap pair_count (sym (add-one j));
      within = omega (arith, t.begins, count_room n j more);
      holds = e;
    }

    pub read-end : n ≤ j → held ≡ padded 0 max_pairs (pair_count n) (from_rows n rows)
    read-end h = t.holds ∙ ap (λ (k : ℕ). padded 0 max_pairs k (from_rows n rows)) (by_cases (ℕ_discrete n j)
        (λ e. t.begins ∙ ap pair_count (sym e))
        (λ e. omega (arith, t.within, t.begins, count_room j n (omega arith))))
