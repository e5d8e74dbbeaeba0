-- The places of the pairs, in a matrix and in rows. In either the pairs fill exactly the places below N(N-1)/2 (`place-bound`, `place-onto`;
-- `row-place-bound`, `row-place-onto`), and no two share a place (`place-one`, `row-place-one`). `alike`: both layouts give each pair
-- the same entry; `one-matrix-of`, `rows-of-one`: rows agree exactly where the matrices do. `strain-keeps`, `strain_appends`: one more
-- strain moves nothing in a matrix. `row-code` is what the code computes.
use mathlib.Core.Path.{◌≡◌, refl, sym, ◌∙◌, ap, ap₂, subst}
use mathlib.Core.List.{List, ◌++◌}
use Prim.Native.Nat.{ℕ, zero, suc, ◌+◌, ◌-◌, ◌*◌, ◌/◌, ◌≤◌, ◌<◌}
use native.Mathlib.Decide.{dec_lt, ℕ_discrete}
use native.Mathlib.Nat.{mul-le-mul}
use native.Mathlib.Numerals.{add-one}
use native.Mathlib.Omega.{arith}
use borrow.Author.Tests.{lt-ltb, le-ltb}
use lib.IntN.{pos}
use lib.ListN.{length, get_or, get_or-append}
use lib.Seq.{get_or-append-add}
use Rattle.exact.specs.Table.{table}
use Rattle.exact.proofs.Decide.{by_cases}
use Rattle.exact.proofs.Fill.{get_or_table, table_cong}
use Rattle.matrix.specs.Limits.{max_strains, max_pairs}
use Rattle.matrix.specs.Place.{pair_count, place, pair_place, behind, pair_at, known, distance, row_start, row_place, from_rows}

row_closed : (N i : ℕ) → i ≤ N → 2 * row_start N i + i * (i + 1) ≡ 2 * (i * N)
unfolding row_start
row_closed N zero h = omega arith
row_closed N (suc i) h = let ih = row_closed N i (omega arith) in omega arith

-- where row i begins, without a sum
pub row-code : (N i : ℕ) → i < N → i * (2 * N - i - 1) / 2 ≡ row_start N i
row-code N i h =
    let whole : 2 * N - i - 1 + (i + 1) ≡ 2 * N = omega arith in
    omega (arith, row_closed N i (omega arith), ap (λ (t : ℕ). i * t) whole)

-- the rows together are all pairs
pub row_last : (N : ℕ) → row_start N N ≡ pair_count N
row_last zero = unfold row_start in refl
row_last (suc N) =
    let one : suc N - 1 ≡ N = omega arith in
    omega (arith, row_closed (suc N) (suc N) (omega arith), ap (λ (t : ℕ). suc N * t) one)

row_mono : (N i k : ℕ) → i ≤ k → row_start N i ≤ row_start N k
unfolding row_start
row_mono N i zero h = let e : i ≡ 0 = omega arith in subst (λ (t : ℕ). row_start N t ≤ 0) (sym e) (omega arith)
row_mono N i (suc k) h =
    let ih : i ≤ k → row_start N i ≤ row_start N k = row_mono N i k in
    by_cases (ℕ_discrete i (suc k)) (λ e. subst (λ (t : ℕ). row_start N t ≤ row_start N (suc k)) (sym e) (omega arith)) (λ e. omega (arith, ih (omega arith)))

-- a row ends where the next begins
row-end : (N i j : ℕ) → i < j → j < N → row_place N i j < row_start N (suc i)
unfolding row_place row_start
row-end N i j h k = omega arith

pub row-place-bound : (N i j : ℕ) → i < j → j < N → row_place N i j < pair_count N
row-place-bound N i j h k = omega (arith, row-end N i j h k, row_mono N (suc i) N (omega arith), row_last N)

-- a pair of an earlier row stands earlier
row-place-less : (N a b i j : ℕ) → a < b → b < N → a < i → row_place N a b < row_place N i j
unfolding row_place
row-place-less N a b i j h k l = omega (arith, row-end N a b h k, row_mono N (suc a) i l)

-- one pair at each place
pub row-place-one : (N a b i j : ℕ) → a < b → b < N → i < j → j < N → row_place N a b ≡ row_place N i j → (a ≡ i) × (b ≡ j)
unfolding row_place
row-place-one N a b i j h k l m e = by_cases (ℕ_discrete a i)
    (λ q. (q, omega (arith, ap (row_start N) q)))
    (λ q. by_cases (dec_lt a i)
    (λ lt. absurd (omega (arith, row-place-less N a b i j h k lt)))
    (λ ge. absurd (omega (arith, row-place-less N i j a b l m (omega arith)))))

-- the pair that stands at k
pub record RowPairAt (N k : ℕ) : Type 0 where
  pub i : ℕ
  pub j : ℕ
  pub rising : i < j
  pub strain : j < N
  pub there : row_place N i j ≡ k

pub row-place-onto : (N k : ℕ) → k < pair_count N → RowPairAt N k
row-place-onto N k h = search_row N (omega arith) (omega (arith, row_last N))
  where
    found : (i : ℕ) → suc i ≤ N → row_start N i ≤ k → k < row_start N i + (N - suc i) → RowPairAt N k
    found i l a b = record { i = i; j = suc i + (k - row_start N i); rising = omega arith; strain = omega arith; there = unfold row_place in omega arith }

    search_row : (m : ℕ) → m ≤ N → k < row_start N m → RowPairAt N k
    search_row zero l b = absurd (unfold row_start in omega arith)
    search_row (suc m) l b = by_cases (dec_lt k (row_start N m)) (search_row m (omega arith)) (λ e. found m l (omega arith) (unfold row_start in b))

-- the most strains have 2,016 pairs
pub pairs-few : (N : ℕ) → N ≤ max_strains → pair_count N ≤ max_pairs
pairs-few N h = omega (arith, mul-le-mul {n₁ = N} {m₁ = N - 1} {n₂ = 64} {m₂ = 63} h (omega arith))

-- a row further down
pub row-place-down : (N i j : ℕ) → i + 1 < j → j < N → row_place N i j + (N - i - 2) ≡ row_place N (i + 1) j
unfolding row_place row_start
row-place-down N i j h k = omega arith ∙ ap (λ (t : ℕ). row_place N t j) (sym (add-one i))

-- ---- in a matrix
-- a strain more is as many pairs more as there were strains
pub count-more : (j : ℕ) → pair_count (suc j) ≡ pair_count j + j
count-more zero = refl
count-more (suc m) =
    let one : suc (suc m) - 1 ≡ suc m = omega arith in
    let two : suc m - 1 ≡ m = omega arith in
    omega (arith, ap (λ (t : ℕ). suc (suc m) * t) one, ap (λ (t : ℕ). suc m * t) two)

count_mono : (j N : ℕ) → j ≤ N → pair_count j ≤ pair_count N
count_mono j zero h = let e : j ≡ 0 = omega arith in rw e (omega arith)
count_mono j (suc N) h =
    let ih : j ≤ N → pair_count j ≤ pair_count N = count_mono j N in
    by_cases (ℕ_discrete j (suc N)) (λ e. rw e (omega arith)) (λ e. omega (arith, ih (omega arith), count-more N))

-- a strain's pairs with those before it have room behind theirs, and only a strain of the N begins before the end
pub count_room : (N j : ℕ) → j < N → pair_count j + j ≤ pair_count N
count_room N j h = omega (arith, count-more j, count_mono (suc j) N (omega arith))

pub count_less : (N j : ℕ) → pair_count j < pair_count N → j < N
count_less N j h = by_cases (dec_lt j N) (λ l. l) (λ l. absurd (omega (arith, count_mono N j (omega arith))))

-- the pairs of a strain with the strains before it stand before the next strain's
place_end : (i j : ℕ) → i < j → place i j < pair_count (suc j)
unfolding place
place_end i j h = omega (arith, count-more j)

pub place-bound : (N i j : ℕ) → i < j → j < N → place i j < pair_count N
place-bound N i j h k = omega (arith, place_end i j h, count_mono (suc j) N (omega arith))

-- a pair of an earlier strain stands earlier
place-less : (a b i j : ℕ) → a < b → b < j → place a b < place i j
unfolding place
place-less a b i j h k = omega (arith, place_end a b h, count_mono (suc b) j (omega arith))

-- one pair at each place
pub place-one : (a b i j : ℕ) → a < b → i < j → place a b ≡ place i j → (a ≡ i) × (b ≡ j)
unfolding place
place-one a b i j h k e = by_cases (ℕ_discrete b j)
    (λ q. (omega (arith, ap pair_count q), q))
    (λ q. by_cases (dec_lt b j)
    (λ lt. absurd (omega (arith, place-less a b i j h lt)))
    (λ ge. absurd (omega (arith, place-less i j a b k (omega arith)))))

-- the pair at k: its lower strain is named first, and k is its place
pub record Stands (k : ℕ) (p : ℕ × ℕ) : Type 0 where
  pub rising : p.0 < p.1
  pub there : place p.0 p.1 ≡ k

behind-same : (i j : ℕ) → i + 1 < j → behind (i, j) ≡ (i + 1, j)
behind-same i j l = rw (lt-ltb (i + 1) j l)

behind-next : (i j : ℕ) → j ≤ i + 1 → behind (i, j) ≡ (0, j + 1)
behind-next i j l = rw (le-ltb (i + 1) j l)

behind-stands : (k : ℕ) (p : ℕ × ℕ) → Stands k p → Stands (suc k) (behind p)
unfolding place
behind-stands k p s = by_cases (dec_lt (p.0 + 1) p.1)
    (λ l. subst (Stands (suc k)) (sym (behind-same p.0 p.1 l)) (record { rising = l; there = omega (arith, s.there) }))
    (λ l. subst (Stands (suc k)) (sym (behind-next p.0 p.1 (omega arith))) (record { rising = omega arith; there = ap (place 0) (add-one p.1) ∙ omega (arith, s.there, s.rising, count-more p.1) }))

pub stands_at : (k : ℕ) → Stands k (pair_at k)
unfolding pair_at place
stands_at zero = record { rising = omega arith; there = refl }
stands_at (suc k) = behind-stands k (pair_at k) (stands_at k)

pub at_place : (i j : ℕ) → i < j → ((pair_at (place i j)).0 ≡ i) × ((pair_at (place i j)).1 ≡ j)
at_place i j h = let s = stands_at (place i j) in place-one (pair_at (place i j)).0 (pair_at (place i j)).1 i j s.rising h s.there

-- the places below N(N-1)/2 are those of the pairs of N strains, and no others
pub place-onto : (N k : ℕ) → k < pair_count N → (pair_at k).1 < N
unfolding place
place-onto N k h = by_cases (dec_lt (pair_at k).1 N) (λ l. l) (λ l. absurd (omega (arith, (stands_at k).there, count_mono N (pair_at k).1 (omega arith))))

-- ---- a strain appends: behind the distances of N strains stand those of strain N with each before it, and the others stay where they were
pub strain-keeps : (N : ℕ) (ds more : List ℕ) → length ds ≡ pair_count N → (i j : ℕ) → i < j → j < N → distance (ds ++ more) (i, j) ≡ distance ds (i, j)
strain-keeps N ds more e i j h k = ap (λ (x : ℕ). pos (known x)) (get_or-append ds more 0 (place i j) (omega (arith, place-bound N i j h k)))

pub strain_appends : (N : ℕ) (ds more : List ℕ) → length ds ≡ pair_count N → (i : ℕ) → distance (ds ++ more) (i, N) ≡ pos (known (get_or more i 0))
unfolding place
strain_appends N ds more e i = ap (λ (k : ℕ). pos (known (get_or (ds ++ more) (k + i) 0))) (sym e) ∙ ap (λ (x : ℕ). pos (known x)) (get_or-append-add ds more i 0)

-- ---- the two layouts answer alike: a matrix made of rows has each pair's entry of the rows at the pair's place
pub from-rows : (N : ℕ) (rows : ℕ → ℕ) (i j : ℕ) → i < j → from_rows N rows (place i j) ≡ rows (row_place N i j)
from-rows N rows i j h = let p = at_place i j h in ap₂ (λ (a b : ℕ). rows (row_place N a b)) p.0 p.1

pub alike : (N : ℕ) (rows : ℕ → ℕ) (i j : ℕ) → i < j → j < N → get_or (table (pair_count N) (from_rows N rows)) (place i j) 0 ≡ rows (row_place N i j)
alike N rows i j h k = get_or_table (pair_count N) (from_rows N rows) 0 (place i j) (place-bound N i j h k) ∙ from-rows N rows i j h

-- rows that agree make one matrix, and only those do
module _ (N : ℕ) (f g : ℕ → ℕ) where
  pub one-matrix-of : ((k : ℕ) → k < pair_count N → f k ≡ g k) → table (pair_count N) (from_rows N f) ≡ table (pair_count N) (from_rows N g)
  one-matrix-of e = table_cong 0 (pair_count N) (from_rows N f) (from_rows N g)
      (λ k h. e (row_place N (pair_at k).0 (pair_at k).1) (row-place-bound N (pair_at k).0 (pair_at k).1 (stands_at k).rising (place-onto N k h)))

  pub rows-of-one : table (pair_count N) (from_rows N f) ≡ table (pair_count N) (from_rows N g) → (k : ℕ) → k < pair_count N → f k ≡ g k
  rows-of-one e k h = let r = row-place-onto N k h in
      ap f (sym r.there) ∙ sym (alike N f r.i r.j r.rising r.strain)
      ∙ ap (λ (l : List ℕ). get_or l (place r.i r.j) 0) e ∙ alike N g r.i r.j r.rising r.strain ∙ ap g r.there

-- a pair's place, whichever strain is named first
pub pair-place-up : (i j : ℕ) → i < j → pair_place i j ≡ place i j
unfolding pair_place
pair-place-up i j h = rw (lt-ltb i j h)

pub pair-place-down : (i j : ℕ) → j ≤ i → pair_place i j ≡ place j i
unfolding pair_place
pair-place-down i j h = rw (le-ltb i j h)

pub pair-place-sym : (i j : ℕ) → pair_place i j ≡ pair_place j i
pair-place-sym i j = by_cases (dec_lt i j)
    (λ l. pair-place-up i j l ∙ sym (pair-place-down j i (omega arith)))
    (λ l. by_cases (dec_lt j i)
    (λ k. pair-place-down i j (omega arith) ∙ sym (pair-place-up j i k))
    (λ k. let e : i ≡ j = omega arith in rw e))
