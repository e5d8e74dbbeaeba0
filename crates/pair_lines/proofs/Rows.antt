-- The lines of a row and of all rows, one behind the other, and how long they are together.
use mathlib.Core.Path.{◌≡◌, ap, ◌∙◌}
use mathlib.Core.List.{List}
use Prim.Native.Nat.{ℕ, zero, suc, ◌+◌, ◌-◌, ◌*◌, ◌≤◌, ◌<◌}
use native.Mathlib.Decide.{dec_lt}
use native.Mathlib.Omega.{arith}
use lib.IntN.{ℤ, pos, nat_abs, ◌-ℤ◌, ◌*ℤ◌}
use lib.ListN.{length, get_or}
use mir.Syntax.{w64}
use mir.Val.{to_z, of_z}
use Rattle.exact.specs.LeastSquares.{path}
use Rattle.exact.specs.Table.{entry_of}
use Rattle.exact.proofs.Sign.{back}
use Rattle.exact.proofs.Decide.{by_cases}
use Rattle.matrix.specs.Place.{place, pair_count, measured, distance, is_measured, known, row_start, row_place}
use Rattle.matrix.proofs.Places.{row-place-bound}
use Rattle.tree_theory.specs.Chain.{parent_of, parts_pair}
use Rattle.inner_paths.specs.Between.{Lengthened}
use Rattle.inner_paths.proofs.Reaching.{near}
use Rattle.pieces.specs.Pieces.{pieces}
use Rattle.pieces.proofs.Pieces.{pieces-grow}
use Rattle.records.specs.Names.{max_name}
use Rattle.newick_put.specs.Put.{word_at}
use Rattle.pair_line.specs.Line.{pair_line, widest_pair, NameThere, farthest}
use Rattle.pair_lines.specs.Lines.{line_by, row_by}
use Rattle.pair_line.proofs.Lining.{name-length, line-long}

module _ (names starts : List ℕ) (n : ℕ) (there : (k : ℕ) → k < n → NameThere names (get_or starts k 0)) (K : ℕ) (ds : List ℕ) (par : ℕ → ℕ) (D : ℕ) (x y : ℕ → ℤ) where
  pub label_long : (k : ℕ) → k < n → length (word_at names starts k) ≤ max_name
  label_long k h = omega (arith, name-length names (get_or starts k 0) (there k h).within, (there k h).short)

  -- what the code writes of a pair is its line
  pub line-is : (i j slot : ℕ) (p q : ℤ) → slot ≡ place i j → p ≡ path K (parts_pair par) x (i, j) → q ≡ path K (parts_pair par) y (i, j)
      → pair_line (word_at names starts i) (word_at names starts j) (is_measured (get_or ds slot 0)) (pos (known (get_or ds slot 0))) p q (pos D *ℤ pos (known (get_or ds slot 0)) -ℤ p)
      ≡ line_by (word_at names starts) K ds par D x y i j
  unfolding line_by
  line-is i j slot p q e f g = rw (e, f, g)

  -- ---- a row
  module _ (i : ℕ) (h : i < n) where
    one-long : (m : ℕ) → i + 1 + m < n → length (line_by (word_at names starts) K ds par D x y i (i + 1 + m)) ≤ widest_pair
    unfolding line_by
    one-long m z = line-long (word_at names starts i) (word_at names starts (i + 1 + m)) (measured ds (i, i + 1 + m)) (distance ds (i, i + 1 + m)) (path K (parts_pair par) x (i, i + 1 + m)) (path K (parts_pair par) y (i, i + 1 + m))
        (pos D *ℤ distance ds (i, i + 1 + m) -ℤ path K (parts_pair par) x (i, i + 1 + m)) (label_long i h) (label_long (i + 1 + m) z)

    pub lines_long : (k : ℕ) → k ≤ n - (i + 1) → length (pieces k (λ m. line_by (word_at names starts) K ds par D x y i (i + 1 + m))) ≤ widest_pair * k
    lines_long k l = omega (
      arith,
      pieces-grow (λ m. widest_pair * m) k (λ m. line_by (word_at names starts) K ds par D x y i (i + 1 + m))
          (λ m z. omega (arith, one-long m (omega arith))),
    )

    pub row-long : length (row_by (word_at names starts) n K ds par D x y i) ≤ widest_pair * (n - (i + 1))
    unfolding row_by
    row-long = lines_long (n - (i + 1)) (omega arith)

  -- ---- all rows: behind i of them stand as many lines as there are pairs of the strains before i
  pub rows_long : (i : ℕ) → i ≤ n → length (pieces i (row_by (word_at names starts) n K ds par D x y)) ≤ widest_pair * row_start n i
  unfolding row_start
  rows_long i l = omega (
    arith,
    pieces-grow (λ m. widest_pair * row_start n m) i (row_by (word_at names starts) n K ds par D x y)
        (λ m z. omega (arith, row-long m (omega arith))),
  )

-- a row and those before it are among all pairs
pub rows-within : (n i : ℕ) → i < n → row_start n i + (n - (i + 1)) ≤ pair_count n
unfolding row_start row_place
rows-within n i h = by_cases (dec_lt (i + 1) n)
    (λ l. omega (arith, row-place-bound n i (n - 1) (omega arith) (omega arith)))
    (λ l. go i h l)
  where
    -- the last strain has no later one
    go : (i : ℕ) → i < n → (i + 1 < n → ⊥) → row_start n i + (n - (i + 1)) ≤ pair_count n
    go zero h l = omega arith
    go (suc k) h l = by_cases (dec_lt (k + 1) n) (λ z. omega (arith, row-place-bound n k (n - 1) (omega arith) (omega arith))) (λ z. absurd (omega arith))

pub rows_fit : (n i : ℕ) → i ≤ n → row_start n i ≤ pair_count n
unfolding row_start
rows_fit n zero h = omega arith
rows_fit n (suc k) h = omega (arith, rows-within n k (omega arith))

-- a path that the code hands on is the path, and near enough for its remainder
module _ {N K : ℕ} {ps : List ℕ} {x : List ℤ} (w : Lengthened N K ps x) (i j : ℕ) (p : ℤ) (e : p ≡ path K (parts_pair (parent_of ps)) (entry_of x) (i, j)) where
  pub path-back : to_z w64 (of_z w64 p) ≡ path K (parts_pair (parent_of ps)) (entry_of x) (i, j)
  path-back = back p (omega (arith, ap nat_abs e, near w i j)) ∙ e

  pub path-near : nat_abs (to_z w64 (of_z w64 p)) ≤ farthest
  path-near = omega (arith, ap nat_abs path-back, near w i j)
