-- A row that was written is read back, cell by cell: each cell is followed by a space or by LF, and neither is a digit. And the
-- rows, one by one: LF ends each, and the next begins behind it.
use mathlib.Core.Path.{◌≡◌, refl, sym, ◌∙◌, ap, subst}
use mathlib.Core.Bool.{Bool, true, false, not, ◌&&◌}
use mathlib.Core.List.{List, [], ◌∷◌, ◌++◌, append_assoc}
use Prim.Native.Nat.{ℕ, zero, suc, ◌+◌, ◌-◌, ◌*◌, ◌≤◌, ◌<◌}
use native.Mathlib.Omega.{arith}
use lib.Dec.{eqb, ltb}
use lib.ListN.{length, get_or, get_or-append}
use lib.Seq.{drop_at}
use Rattle.exact.proofs.Fill.{length-table, get_or_table}
use Rattle.verdict.specs.Table.{some}
use Rattle.verdict.proofs.Table.{some-no}
use Rattle.verdict.proofs.Answers.{none_or}
use Rattle.matrix.specs.Limits.{max_distance}
use Rattle.matrix.specs.Place.{known}
use Rattle.digits.specs.Digits.{run}
use Rattle.cells.specs.Cell.{cell_out, cell_entry}
use Rattle.cells.specs.Row.{behind, rest, cell_text, cell_bad}
use Rattle.pieces.specs.Pieces.{pieces_from, pieces}
use Rattle.phylip_text.specs.Form.{end_bad, next_line, name_out, name_size, cells_of, behind_cells, row_bad, row_text}
use Rattle.phylip_text.specs.Text.{cell_written, value_at, name_written, row_written}
use Rattle.phylip_text.proofs.Cells.{Stops, CellIs, cell_is}

no-and : (b : Bool) → (b && false) ≡ false
no-and true = refl
no-and false = refl

-- ---- LF
pub line-next : (k : List ℕ) → next_line (10 ∷ k) ≡ k
unfolding next_line run
line-next k = refl

pub line-ended : (k : List ℕ) → end_bad (10 ∷ k) ≡ false
unfolding end_bad run
line-ended k = no-and (not (eqb (suc (length k)) 0))

-- ---- the cells of a row, with k behind them
module _ (f : ℕ → ℕ) (near : (j : ℕ) → known (f j) ≤ max_distance) (k : List ℕ) (stop : Stops k) where
  abbrev written : ℕ → List ℕ
  written j = cell_written (f j)

  stops_at : (j m : ℕ) → Stops (pieces_from j m written ++ k)
  unfolding pieces_from cell_written
  stops_at j zero = stop
  stops_at j (suc m) = refl

  first-is : (j m : ℕ) → CellIs (f j) (pieces_from j (suc m) written ++ k) (pieces_from (suc j) m written ++ k)
  unfolding pieces_from
  first-is j m = rw append_assoc (cell_is (f j) (pieces_from (suc j) m written ++ k) (near j) (stops_at (suc j) m))

  -- behind the first j cells stand the others
  rest-is : (j m : ℕ) → rest j (pieces (j + m) written ++ k) ≡ pieces_from j m written ++ k
  unfolding rest
  rest-is zero m = ap (λ (n : ℕ). pieces n written ++ k) (omega arith)
  rest-is (suc j) m = ap (λ (n : ℕ). behind (rest j (pieces n written ++ k))) (omega arith) ∙ ap behind (rest-is j (suc m)) ∙ (first-is j m).behind-is

  module _ (N : ℕ) where
    abbrev all : List ℕ
    all = pieces N written ++ k

    cell_read : (j : ℕ) → j < N → CellIs (f j) (rest j all) (pieces_from (suc j) (N - suc j) written ++ k)
    cell_read j h = let q : j + suc (N - suc j) ≡ N = omega arith in
        subst (λ (l : List ℕ). CellIs (f j) l (pieces_from (suc j) (N - suc j) written ++ k))
        (sym (ap (λ (n : ℕ). rest j (pieces n written ++ k)) (sym q) ∙ rest-is j (suc (N - suc j))))
        (first-is j (N - suc j))

    pub cells-good : some N (cell_bad all) ≡ false
    cells-good = some-no N (cell_bad all) (λ j h. let c = cell_read j h in none_or c.there (ap (λ (n : ℕ). ltb 0 j && eqb n 0) c.gap_is ∙ no-and (ltb 0 j)))

    pub cells_in : (j : ℕ) → j < N → cell_out (cell_text all j) ≡ false
    cells_in j h = (cell_read j h).in_range

    pub cells_are : (j : ℕ) → j < N → cell_entry (cell_text all j) ≡ f j
    cells_are j h = (cell_read j h).entry-is

    pub cells-behind : rest N all ≡ k
    unfolding pieces_from
    cells-behind = let q : N + 0 ≡ N = omega arith in ap (λ (n : ℕ). rest N (pieces n written ++ k)) (sym q) ∙ rest-is N 0

-- ---- a row, with k behind it
module _ (N : ℕ) (ds names : List ℕ) (near : (i j : ℕ) → known (value_at ds i j) ≤ max_distance) (i : ℕ) (k : List ℕ) where
  abbrev row : List ℕ
  row = row_written N ds names i ++ k

  row_apart : row ≡ name_written names i ++ (pieces N (λ j. cell_written (value_at ds i j)) ++ (10 ∷ k))
  unfolding row_written
  row_apart = append_assoc (name_written names i) (pieces N (λ j. cell_written (value_at ds i j)) ++ (10 ∷ [])) k
      ∙ ap (λ (l : List ℕ). name_written names i ++ l) (append_assoc (pieces N (λ j. cell_written (value_at ds i j))) (10 ∷ []) k)

  name-long : length (name_written names i) ≡ name_size
  name-long = length-table name_size (λ m. get_or names (name_size * i + m) 0)

  pub row-cells : cells_of row ≡ pieces N (λ j. cell_written (value_at ds i j)) ++ (10 ∷ k)
  row-cells = ap cells_of row_apart ∙ drop_at (name_written names i) (pieces N (λ j. cell_written (value_at ds i j)) ++ (10 ∷ k)) name_size name-long

  pub row-name : (m : ℕ) → m < name_size → get_or row m 0 ≡ get_or names (name_size * i + m) 0
  row-name m h = ap (λ (l : List ℕ). get_or l m 0) row_apart
      ∙ get_or-append (name_written names i) (pieces N (λ j. cell_written (value_at ds i j)) ++ (10 ∷ k)) 0 m (omega (arith, name-long))
      ∙ get_or_table name_size (λ n. get_or names (name_size * i + n) 0) 0 m h

  behind-row : behind_cells N row ≡ 10 ∷ k
  behind-row = ap (rest N) row-cells ∙ cells-behind (value_at ds i) (near i) (10 ∷ k) refl N

  pub row-behind : next_line (behind_cells N row) ≡ k
  row-behind = ap next_line behind-row ∙ line-next k

  pub row-good : ((m : ℕ) → m < name_size → name_out (get_or names (name_size * i + m) 0) ≡ false) → row_bad N row ≡ false
  unfolding row_bad
  row-good h = none_or (some-no name_size (λ m. name_out (get_or row m 0)) (λ m l. ap name_out (row-name m l) ∙ h m l))
      (none_or (ap (λ (l : List ℕ). some N (cell_bad l)) row-cells ∙ cells-good (value_at ds i) (near i) (10 ∷ k) refl N) (ap end_bad behind-row ∙ line-ended k))

  pub row_in : (j : ℕ) → j < N → cell_out (cell_text (cells_of row) j) ≡ false
  row_in j h = ap (λ (l : List ℕ). cell_out (cell_text l j)) row-cells ∙ cells_in (value_at ds i) (near i) (10 ∷ k) refl N j h

  pub row_are : (j : ℕ) → j < N → cell_entry (cell_text (cells_of row) j) ≡ value_at ds i j
  row_are j h = ap (λ (l : List ℕ). cell_entry (cell_text l j)) row-cells ∙ cells_are (value_at ds i) (near i) (10 ∷ k) refl N j h

-- ---- the rows: behind the first i stand the others
module _ (N : ℕ) (ds names : List ℕ) (near : (i j : ℕ) → known (value_at ds i j) ≤ max_distance) where
  pub rows_are : (i m : ℕ) → row_text N (pieces (i + m) (row_written N ds names)) i ≡ pieces_from i m (row_written N ds names)
  unfolding row_text pieces_from
  rows_are zero m = let q : 0 + m ≡ m = omega arith in ap (λ (n : ℕ). pieces n (row_written N ds names)) q
  rows_are (suc i) m = let q : suc i + m ≡ i + suc m = omega arith in ap (λ (n : ℕ). next_line (behind_cells N (row_text N (pieces n (row_written N ds names)) i))) q
      ∙ ap (λ (l : List ℕ). next_line (behind_cells N l)) (rows_are i (suc m))
      ∙ row-behind N ds names near i (pieces_from (suc i) m (row_written N ds names))
