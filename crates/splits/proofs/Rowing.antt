-- The rows of the strains. The idea: the pairs come column by column, strain j with each strain before it, and a pair is added to the rows of
-- both its strains. `Rowing` is the loop over one column; `rows_none` and `rows_more` are the columns.
use Rattle.std.proofs.Common.{◌≡◌, ℕ, suc, ◌+◌, ◌*◌, ◌^◌, ◌<◌, ◌≤◌, eqb, List, [], ◌∷◌, length, get_or, set, ℤ, pos, ◌+ℤ◌, ◌*ℤ◌, nat_abs, sym, refl, ap, ◌∙◌, ap₂, add-one, arith, length-set, w64, SFits, to_z, of_z}
use lib.IntN.{+ℤ_idr, zero-*ℤ}
use Rattle.exact.specs.Sum.{sum, pairs, ind}
use Rattle.exact.specs.Table.{table, entry_of}
use Rattle.exact.proofs.Decide.{eq_no}
use Rattle.exact.proofs.Fill.{length-table, get_or_table_const}
use Rattle.exact.proofs.Quote.{by-ring, quote}
use Rattle.exact.proofs.Ring.{*ℤ-distribʳ}
use Rattle.exact.proofs.Sign.{nat_abs_add, fits_abs, back}
use Rattle.exact.proofs.Sum.{sum-0, sum-suc, sum_cong, sum-+, sum-*, pairs_cong, pairs-sums, S-zero, ind-no}
use Rattle.exact.proofs.Sweep.{sum_abs, chosen-sum_abs, ind_abs, pairs_abs}
use Rattle.matrix.specs.Limits.{max_strains, max_distance}
use Rattle.matrix.specs.Place.{pair_count, place}
use Rattle.tree_theory.specs.Limits.{max_edges}
use Rattle.meeting.proofs.Putting.{set-add}
use Rattle.splits.specs.Sums.{entry_at, in_row, max_row, RowAdded, Rows}
use Rattle.splits.proofs.Reading.{read_is}

-- the pairs of j with the strains below i are added
pub record Rowing (ds : List ℕ) (j : ℕ) (old : List ℤ) (i : ℕ) (whole : ℤ) (own : List ℤ) : Type 0 where
  pub here : i ≤ j
  pub size : length own ≡ max_edges
  pub total : whole ≡ sum i (λ a. entry_at ds (a, j))
  pub entries : (w : ℕ) → entry_of own w ≡ entry_of old w +ℤ sum i (λ a. ind (eqb w a) *ℤ entry_at ds (a, j))

pub row-start : (ds : List ℕ) (j : ℕ) (old : List ℤ) → length old ≡ max_edges → Rowing ds j old 0 (pos 0) old
row-start ds j old e = record {
  here = omega arith;
  size = e;
  total = sym (sum-0 (λ a. entry_at ds (a, j)));
  entries = λ w. sym (ap (λ y. entry_of old w +ℤ y) (sum-0 (λ a. ind (eqb w a) *ℤ entry_at ds (a, j))) ∙ +ℤ_idr (entry_of old w));
}

module _ {ds : List ℕ} (near : (k : ℕ) → get_or ds k 0 ≤ max_distance) {j : ℕ} (few : j < max_strains) {old : List ℤ} (low : (w : ℕ) → nat_abs (entry_of old w) ≤ max_row)
    {i : ℕ} {whole : ℤ} {own : List ℤ} (t : Rowing ds j old i whole own) where
  total_abs : nat_abs whole ≤ i * max_distance
  total_abs = omega (arith, ap nat_abs t.total, sum_abs i max_distance (λ a. entry_at ds (a, j)) (λ a _. near (place a j)))

  own_abs : (w : ℕ) → nat_abs (entry_of own w) ≤ max_row + i * max_distance
  own_abs w = omega (
    arith,
    ap nat_abs (t.entries w),
    nat_abs_add (entry_of old w) (sum i (λ a. ind (eqb w a) *ℤ entry_at ds (a, j))),
    low w,
    chosen-sum_abs i max_distance (eqb w) (λ a. entry_at ds (a, j)) (λ a _. near (place a j)),
  )

  own_back : (w : ℕ) → to_z w64 (of_z w64 (entry_of own w)) ≡ entry_of own w
  own_back w = back (entry_of own w) (omega (arith, own_abs w, t.here, few))

  -- ---- one pair
  module _ {first : ℕ} (start : first ≡ pair_count j) (turn : i < j) where
    abbrev far : ℤ
    far = to_z w64 (get_or ds (first + i) 0)

    far-is : far ≡ entry_at ds (i, j)
    unfolding place
    far-is = read_is ds near (first + i) ∙ ap (λ (k : ℕ). pos (get_or ds (k + i) 0)) start

    far_abs : nat_abs far ≤ max_distance
    far_abs = omega (arith, ap nat_abs far-is, near (place i j))

    abbrev raised : ℤ
    raised = to_z w64 (of_z w64 (entry_of own i)) +ℤ far

    raised-near : nat_abs raised < 2 ^ 63
    raised-near = omega (arith, nat_abs_add (to_z w64 (of_z w64 (entry_of own i))) far, ap nat_abs (own_back i), own_abs i, far_abs, t.here, few)

    pub raised-fits : SFits w64 raised
    raised-fits = fits_abs raised raised-near

    whole-near : nat_abs (whole +ℤ far) < 2 ^ 63
    whole-near = omega (arith, nat_abs_add whole far, total_abs, far_abs, t.here, few)

    pub whole-fits : SFits w64 (whole +ℤ far)
    whole-fits = fits_abs (whole +ℤ far) whole-near

    pub row-turn : Rowing ds j old (i + 1) (to_z w64 (of_z w64 (whole +ℤ far))) (set own i (to_z w64 (of_z w64 raised)))
    row-turn = rw add-one (record {
      here = turn;
      size = simp length-set t.size;
      total = back (whole +ℤ far) whole-near ∙ ap₂ ◌+ℤ◌ t.total far-is ∙ sym (sum-suc i (λ a. entry_at ds (a, j)));
      entries = λ w. set-add i far (to_z w64 (of_z w64 raised)) own (omega (arith, t.size, t.here, few)) (back raised raised-near ∙ ap (λ y. y +ℤ far) (own_back i)) w
          ∙ ap₂ (λ y z. y +ℤ ind (eqb w i) *ℤ z) (t.entries w) far-is
          ∙ by-ring (entry_of old w ∷ sum i (λ a. ind (eqb w a) *ℤ entry_at ds (a, j)) ∷ ind (eqb w i) ∷ entry_at ds (i, j) ∷ []) (search quote depth 20) tt
          ∙ ap (λ y. entry_of old w +ℤ y) (sym (sum-suc i (λ a. ind (eqb w a) *ℤ entry_at ds (a, j))));
    })

  -- ---- the whole column
  abbrev last : ℤ
  last = to_z w64 (of_z w64 (entry_of own j)) +ℤ whole

  last-near : nat_abs last < 2 ^ 63
  last-near = omega (arith, nat_abs_add (to_z w64 (of_z w64 (entry_of own j))) whole, ap nat_abs (own_back j), own_abs j, total_abs, t.here, few)

  pub last_fits : SFits w64 last
  last_fits = fits_abs last last-near

  pub row-end : j ≤ i → RowAdded ds j old (set own j (to_z w64 (of_z w64 last)))
  row-end l = let e : i ≡ j = omega (arith, t.here) in record {
    size = simp length-set t.size;
    entries = λ w. set-add j whole (to_z w64 (of_z w64 last)) own (omega (arith, t.size, few)) (back last last-near ∙ ap (λ y. y +ℤ whole) (own_back j)) w
        ∙ ap₂ (λ y z. y +ℤ ind (eqb w j) *ℤ z) (t.entries w) t.total
        ∙ ap (λ (k : ℕ). entry_of old w +ℤ sum k (λ a. ind (eqb w a) *ℤ entry_at ds (a, j)) +ℤ ind (eqb w j) *ℤ sum k (λ a. entry_at ds (a, j))) e
        ∙ both w;
  }
    where
      both : (w : ℕ) → entry_of old w +ℤ sum j (λ a. ind (eqb w a) *ℤ entry_at ds (a, j)) +ℤ ind (eqb w j) *ℤ sum j (λ a. entry_at ds (a, j)) ≡ entry_of old w +ℤ sum j (λ a. in_row ds w (a, j))
      both w = by-ring (entry_of old w ∷ sum j (λ a. ind (eqb w a) *ℤ entry_at ds (a, j)) ∷ ind (eqb w j) ∷ sum j (λ a. entry_at ds (a, j)) ∷ []) (search quote depth 20) tt
          ∙ ap (λ y. entry_of old w +ℤ y)
          (ap (λ y. sum j (λ a. ind (eqb w a) *ℤ entry_at ds (a, j)) +ℤ y) (sym (sum-* j (ind (eqb w j)) (λ a. entry_at ds (a, j))))
          ∙ sym (sum-+ j (λ a. ind (eqb w a) *ℤ entry_at ds (a, j)) (λ a. ind (eqb w j) *ℤ entry_at ds (a, j)))
          ∙ sum_cong j (λ a _. sym (*ℤ-distribʳ (ind (eqb w a)) (ind (eqb w j)) (entry_at ds (a, j)))))

-- ---- column by column
pub rows_none : (ds : List ℕ) (own : List ℤ) → own ≡ table max_edges (λ _. pos 0) → Rows 0 ds own
rows_none ds own e = record {
  size = ap length e ∙ length-table max_edges (λ _. pos 0);
  entries = λ w. ap (λ l. entry_of l w) e ∙ get_or_table_const max_edges (pos 0) w ∙ sym (none w);
}
  where
    none : (w : ℕ) → pairs 0 (in_row ds w) ≡ pos 0
    none w = unfold pairs sum in refl

pub rows_more : {ds : List ℕ} {j : ℕ} {old new : List ℤ} → Rows j ds old → RowAdded ds j old new → Rows (j + 1) ds new
rows_more {ds} {j} {old} {new} r a = rw add-one (record { size = a.size; entries = λ w. a.entries w ∙ ap (λ y. y +ℤ sum j (λ k. in_row ds w (k, j))) (r.entries w) ∙ more w })
  where
    more : (w : ℕ) → pairs j (in_row ds w) +ℤ sum j (λ k. in_row ds w (k, j)) ≡ pairs (suc j) (in_row ds w)
    more w = unfold pairs in sym (sum-suc j (λ b. sum b (λ k. in_row ds w (k, b))))

pub rows-low : {ds : List ℕ} {j : ℕ} {own : List ℤ} → ((k : ℕ) → get_or ds k 0 ≤ max_distance) → j ≤ max_strains → Rows j ds own → (w : ℕ) → nat_abs (entry_of own w) ≤ max_row
rows-low {ds} {j} {own} near few r w = omega (arith, ap nat_abs (r.entries w), pairs_abs j (2 * max_distance) (in_row ds w) few at)
  where
    at : (p : ℕ × ℕ) → nat_abs (in_row ds w p) ≤ 2 * max_distance
    at p = omega (
      arith,
      ap nat_abs (*ℤ-distribʳ (ind (eqb w p.0)) (ind (eqb w p.1)) (entry_at ds p)),
      nat_abs_add (ind (eqb w p.0) *ℤ entry_at ds p) (ind (eqb w p.1) *ℤ entry_at ds p),
      ind_abs (eqb w p.0) (entry_at ds p),
      ind_abs (eqb w p.1) (entry_at ds p),
      near (place p.0 p.1),
    )

-- a vertex that is no strain has none
pub no_row : (N : ℕ) (ds : List ℕ) (w : ℕ) → N ≤ w → pairs N (in_row ds w) ≡ pos 0
no_row N ds w l = pairs_cong N (λ p k h. ap₂ (λ x y. (x +ℤ y) *ℤ entry_at ds p) (ind-no (eq_no {a = w} {b = p.0} (λ e. omega arith))) (ind-no (eq_no {a = w} {b = p.1} (λ e. omega arith))) ∙ zero-*ℤ (entry_at ds p))
    ∙ S-zero (pairs-sums N)
