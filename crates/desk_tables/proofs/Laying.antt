-- A list laid into the front of a table, entry by entry (`front-laid`); and each distance taken from where its pair stands among the rows
-- (`laid-entry`), pair by pair in the matrix's order.
use mathlib.Core.Path.{◌≡◌, refl, sym, ◌∙◌, ap, ap₂}
use mathlib.Core.Bool.{Bool, true, false, cond, ◌&&◌}
use mathlib.Core.List.{List}
use Prim.Native.Nat.{ℕ, zero, suc, ◌+◌, ◌-◌, ◌≤◌, ◌<◌}
use native.Mathlib.Numerals.{add-one}
use native.Mathlib.Omega.{arith}
use borrow.Author.Tests.{leb-true, eqb-true, lt-ltb, le-ltb}
use lib.Dec.{eqb, leb, ltb}
use lib.ListN.{length, length-set, length-drop, get_or, set, take, drop}
use lib.Seq.{ext_get_or, get_or-take, get_or-drop, length-take-le}
use Rattle.exact.specs.Table.{table}
use Rattle.exact.proofs.Fill.{Filled, fill_none, fill_more, length-table, get_or_table}
use Rattle.matrix.specs.Limits.{max_strains}
use Rattle.matrix.specs.Place.{pair_count, behind, pair_at, row_place, from_rows}
use Rattle.matrix.proofs.Places.{stands_at, place-onto, row-place-bound}
use Rattle.digits.proofs.Reading.{both_true}
use Rattle.desk_text.specs.Meaning.{by_strains}
use Rattle.desk_tables.specs.Laid.{Front}

abbrev pub Laid : List ℕ → List ℕ → ℕ → List ℕ → Type 0
Laid l before k after = Filled 0 (λ m. get_or l m 0) (λ m. get_or before m 0) k after

pub front-laid : (l before after : List ℕ) (k : ℕ) → length l ≤ length before → length after ≡ length before → k ≡ length l → Laid l before k after → Front l before after
front-laid l before after k few size end f = record {
  size = size;
  front-is = let n = length-take-le (length l) after (omega (arith, few, size)) in
      ext_get_or 0 (take (length l) after) l n (λ m h. get_or-take (length l) after m 0 (omega (arith, n)) ∙ f.below m (omega (arith, n, end)));
  back_is = ext_get_or 0 (drop (length l) after) (drop (length l) before) (length-drop (length l) after ∙ ap (λ (n : ℕ). n - length l) size ∙ sym (length-drop (length l) before))
      (λ m h. get_or-drop (length l) after m 0 ∙ f.above (length l + m) (omega (arith, end)) ∙ sym (get_or-drop (length l) before m 0));
}

-- ---- distances
module _ (n : ℕ) (rows : List ℕ) where
  -- whether the rows are a matrix's
  abbrev of_matrix : Bool
  of_matrix = leb n max_strains && eqb (length rows) (pair_count n)

  pub strains-size : length (by_strains n rows) ≡ length rows
  unfolding by_strains
  strains-size = go of_matrix
    where
      go : (b : Bool) → length (cond b (table (length rows) (from_rows n (λ k. get_or rows k 0))) rows) ≡ length rows
      go true = length-table (length rows) (from_rows n (λ k. get_or rows k 0))
      go false = refl

  pub laid-entry : (k i j from : ℕ) (ordered : Bool) → ordered ≡ of_matrix → k < length rows → i ≡ (pair_at k).0 → j ≡ (pair_at k).1 → from ≡ cond ordered (row_place n i j) k
      → get_or rows from 0 ≡ get_or (by_strains n rows) k 0
  unfolding by_strains
  laid-entry k i j from ordered o h ei ej e = ap (λ (m : ℕ). get_or rows m 0) e ∙ go ordered ∙ ap (λ (b : Bool). get_or (cond b (table (length rows) (from_rows n (λ m. get_or rows m 0))) rows) k 0) o
    where
      go : (b : Bool) → get_or rows (cond b (row_place n i j) k) 0 ≡ get_or (cond b (table (length rows) (from_rows n (λ m. get_or rows m 0))) rows) k 0
      go true = ap₂ (λ (x y : ℕ). get_or rows (row_place n x y) 0) ei ej ∙ sym (get_or_table (length rows) (from_rows n (λ m. get_or rows m 0)) 0 k h)
      go false = refl

  module _ (k i j : ℕ) (h : k < length rows) (ei : i ≡ (pair_at k).0) (ej : j ≡ (pair_at k).1) (is : of_matrix ≡ true) where
    few : n ≤ max_strains
    few = leb-true n max_strains (both_true (leb n max_strains) (eqb (length rows) (pair_count n)) is).0

    all : length rows ≡ pair_count n
    all = eqb-true (length rows) (pair_count n) (both_true (leb n max_strains) (eqb (length rows) (pair_count n)) is).1

    rising : i < j
    rising = let s = (stands_at k).rising in omega (arith, s, ei, ej)

    strain : j < n
    strain = let s = place-onto n k (omega (arith, h, all)) in omega (arith, s, ej)

    pub pair-there : (i < j) × (j < n) × (n ≤ max_strains)
    pair-there = (rising, strain, few)

    pub from-within : row_place n i j < length rows
    from-within = let b = row-place-bound n i j rising strain in omega (arith, b, all)

  -- where an entry is taken from is within the rows
  pub source_within : (k i j from : ℕ) (ordered : Bool) → ordered ≡ of_matrix → k < length rows → i ≡ (pair_at k).0 → j ≡ (pair_at k).1 → from ≡ cond ordered (row_place n i j) k → from < length rows
  source_within k i j from true o h ei ej e = let b = from-within k i j h ei ej (sym o) in omega (arith, b, e)
  source_within k i j from false o h ei ej e = omega (arith, h, e)

-- the pairs come no faster than the places
pub pair-low : (k : ℕ) → ((pair_at k).0 ≤ k) × ((pair_at k).1 ≤ k + 1)
unfolding pair_at
pair-low zero = (omega arith, omega arith)
pair-low (suc k) = let ih = pair-low k in go (ltb ((pair_at k).0 + 1) (pair_at k).1) ih
  where
    go : (b : Bool) → ((pair_at k).0 ≤ k) × ((pair_at k).1 ≤ k + 1) → ((cond {A = ℕ × ℕ} b ((pair_at k).0 + 1, (pair_at k).1) (0, (pair_at k).1 + 1)).0 ≤ suc k) × ((cond {A = ℕ × ℕ} b ((pair_at k).0 + 1, (pair_at k).1) (0, (pair_at k).1 + 1)).1 ≤ suc k + 1)
    go true ih = (omega (arith, ih.0), omega (arith, ih.1))
    go false ih = (omega arith, omega (arith, ih.1))

pub record Laying (n : ℕ) (ordered : Bool) (rows before distances : List ℕ) (k i j : ℕ) : Type 0 where
  pub few : k ≤ length rows
  pub size : length distances ≡ length before
  pub i-is : i ≡ (pair_at k).0
  pub j-is : j ≡ (pair_at k).1
  pub laid : Laid (by_strains n rows) before k distances

pub laying_start : (n : ℕ) (ordered : Bool) (rows before : List ℕ) → Laying n ordered rows before before 0 0 1
unfolding pair_at
laying_start n ordered rows before = record { few = omega arith; size = refl; i-is = refl; j-is = refl; laid = fill_none 0 (λ m. get_or (by_strains n rows) m 0) (λ m. get_or before m 0) before (λ m. refl) }

pub laying_turn : (n : ℕ) (ordered : Bool) (rows before distances : List ℕ) (k i j from i' j' : ℕ) → ordered ≡ (leb n max_strains && eqb (length rows) (pair_count n))
    → length rows ≤ length before → k < length rows → from ≡ cond ordered (row_place n i j) k → i' ≡ (behind (i, j)).0 → j' ≡ (behind (i, j)).1
    → Laying n ordered rows before distances k i j → Laying n ordered rows before (set distances k (get_or rows from 0)) (k + 1) i' j'
unfolding pair_at
laying_turn n ordered rows before distances k i j from i' j' o few h e ei ej t = record {
  few = omega (arith, h);
  size = length-set distances k (get_or rows from 0) ∙ t.size;
  i-is = ei ∙ ap₂ (λ (x y : ℕ). (behind (x, y)).0) t.i-is t.j-is ∙ ap (λ (m : ℕ). (pair_at m).0) (sym (add-one k));
  j-is = ej ∙ ap₂ (λ (x y : ℕ). (behind (x, y)).1) t.i-is t.j-is ∙ ap (λ (m : ℕ). (pair_at m).1) (sym (add-one k));
  laid = fill_more 0 (λ m. get_or (by_strains n rows) m 0) (λ m. get_or before m 0) k distances (get_or rows from 0) (omega (arith, h, few, t.size))
      (laid-entry n rows k i j from ordered o h t.i-is t.j-is e) t.laid;
}
