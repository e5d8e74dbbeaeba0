-- The square matrices of PHYLIP, as a text of bytes (RULES, Square matrices in text):
--
--     text   blanks, the count N in digits, a line's end, N rows
--     row    a name of ten bytes from 32 to 126, N cells, a line's end
--     cell   a decimal: digits, alone or with a point and more digits; or the two bytes -1
--     a line's end   blanks, then LF or CR LF, or the end of the text
--
-- Blanks are spaces and tabs, any number or none. A gap of one or more blanks and line ends stands between two cells, any gap or none
-- before a row's first. Nothing follows the last row. Where the text ends before its last row, the next name is not of the form, so
-- only the last row can do without LF.
--
-- Everything reads from the front: a function takes the text that is left and gives what stands there, or what is left behind it.
use Rattle.std.specs.Prelude.{Bool, cond, not, ◌&&◌, ◌||◌, List, ℕ, zero, suc, ◌*◌, ◌/◌, ◌%◌, eqb, ltb, length, get_or, take, drop}
use Rattle.exact.specs.Table.{table}
use Rattle.verdict.specs.Table.{some}
use Rattle.matrix.specs.Place.{pair_count, pair_at}
use Rattle.digits.specs.Digits.{run, is_blank, is_digit, number_from}
use Rattle.cells.specs.Cell.{cell_out, cell_entry}
use Rattle.cells.specs.Row.{rest, cell_text, cell_bad}

-- ---- lines
-- behind the blanks at the front
abbrev pub past : List ℕ → List ℕ
past l = drop (run is_blank l) l

-- how many bytes the line end has that two bytes begin: LF, or CR LF; 0 where they begin none
abbrev pub line_end_size : ℕ → ℕ → ℕ
line_end_size x y = cond (eqb x 10) 1 (cond (eqb x 13 && eqb y 10) 2 0)

-- the same at the front of a text
abbrev pub line_end : List ℕ → ℕ
line_end l = line_end_size (get_or l 0 0) (get_or l 1 0)

-- 17: behind blanks neither a line end nor the end of the text
unfoldable pub end_bad : List ℕ → Bool
end_bad l = not (eqb (length (past l)) 0) && eqb (line_end (past l)) 0

-- the next line
unfoldable pub next_line : List ℕ → List ℕ
next_line l = drop (line_end (past l)) (past l)

-- ---- the count
-- how many digits it has
unfoldable pub count_size : List ℕ → ℕ
count_size t = run is_digit (past t)

-- N, however many digits it has
unfoldable pub count_of : List ℕ → ℕ
count_of t = number_from 0 (take (count_size t) (past t))

-- behind the count
unfoldable pub behind_count : List ℕ → List ℕ
behind_count t = drop (count_size t) (past t)

-- ---- rows
-- 17: a byte that no name has
abbrev pub name_out : ℕ → Bool
name_out x = ltb x 32 || ltb 126 x

-- how many bytes a name has
abbrev pub name_size : ℕ
name_size = 10

-- 17: the ten bytes at the front are no name
abbrev pub name_bad : List ℕ → Bool
name_bad l = some name_size (λ k. name_out (get_or l k 0))

-- the cells of the row at the front, and behind them
abbrev pub cells_of : List ℕ → List ℕ
cells_of l = drop name_size l

abbrev pub behind_cells : ℕ → List ℕ → List ℕ
behind_cells N l = rest N (cells_of l)

-- 17: the row at the front is not of the form
unfoldable pub row_bad : ℕ → List ℕ → Bool
row_bad N l = name_bad l || (some N (cell_bad (cells_of l)) || end_bad (behind_cells N l))

-- row i of those that begin at l; row N is what follows the last
unfoldable pub row_text : ℕ → List ℕ → ℕ → List ℕ
row_text N l zero = l
row_text N l (suc i) = next_line (behind_cells N (row_text N l i))

-- the text of the cell in row i and column j
abbrev pub cell_at : ℕ → List ℕ → ℕ → ℕ → List ℕ
cell_at N l i j = cell_text (cells_of (row_text N l i)) j

-- ---- the whole text
-- where its rows begin
abbrev pub rows_of : List ℕ → List ℕ
rows_of t = next_line (behind_count t)

-- 17: some row is not of the form, or something follows the last
unfoldable pub rows_bad : ℕ → List ℕ → Bool
rows_bad N l = some N (λ i. row_bad N (row_text N l i)) || not (eqb (length (row_text N l N)) 0)

-- 18: some decimal is above 5.0000 or has more than four places
unfoldable pub decimals_out : ℕ → List ℕ → Bool
decimals_out N l = some N (λ i. some N (λ j. cell_out (cell_at N l i j)))

-- what a matrix holds of the cell in row i and column j
unfoldable pub entry_at : ℕ → List ℕ → ℕ → ℕ → ℕ
entry_at N l i j = cell_entry (cell_at N l i j)

-- 19: some cell is not what the cell on the other side of the diagonal is, or not zero on it
unfoldable pub halves_out : ℕ → (ℕ → ℕ → ℕ) → Bool
halves_out N f = some N (λ i. some N (λ j. not (eqb (f i j) (cond (eqb i j) 0 (f j i)))))

-- ---- what is read
-- the distances, by strains
abbrev pub distances_read : ℕ → (ℕ → ℕ → ℕ) → List ℕ
distances_read N f = table (pair_count N) (λ k. f (pair_at k).0 (pair_at k).1)

-- the names, ten bytes a strain
abbrev pub names_read : ℕ → List ℕ → List ℕ
names_read N l = table (name_size * N) (λ k. get_or (row_text N l (k / name_size)) (k % name_size) 0)
