-- What is read of a name, of a row and of all rows of a text; `l` below is the text that is left where it begins. The grid has the
-- entries of row i from 64·i on, the table of names has the name of strain i from 10·i on.
use Rattle.std.specs.Prelude.{◌≡◌, Bool, false, List, ℕ, ◌+◌, ◌*◌, ◌≤◌, ◌<◌, length, get_or, drop, Option, is_none, IfSome}
use Rattle.verdict.specs.Table.{some}
use Rattle.matrix.specs.Limits.{max_strains}
use Rattle.cells.specs.Cell.{cell_out, cell_entry}
use Rattle.cells.specs.Row.{cell_text}
use Rattle.cells.specs.declared.RowRead.{RowRead}
use Rattle.phylip_text.specs.Form.{name_size, name_bad, cells_of, behind_cells, next_line, row_bad, row_text, rows_bad, decimals_out, entry_at}

-- of a name, copied from `base` on; nothing before it changes
pub record NameRead (s : List ℕ) (at base : ℕ) (before after : List ℕ) (r : Bool) : Type 0 where
  pub bad-is : r ≡ name_bad (drop at s)
  pub size : length after ≡ length before
  pub kept : (k : ℕ) → k < base → get_or after k 0 ≡ get_or before k 0
  pub each : r ≡ false → (k : ℕ) → k < name_size → get_or after (base + k) 0 ≡ get_or (drop at s) k 0

-- of row i, which is of the form
pub record Row (s : List ℕ) (at n i : ℕ) (grid names : List ℕ) (r : RowRead) : Type 0 where
  pub within : r.end ≤ length s
  pub next : drop r.end s ≡ next_line (behind_cells n (drop at s))
  pub out-is : r.out ≡ some n (λ j. cell_out (cell_text (cells_of (drop at s)) j))
  pub entries : (j : ℕ) → j < n → get_or grid (max_strains * i + j) 0 ≡ cell_entry (cell_text (cells_of (drop at s)) j)
  pub name : (k : ℕ) → k < name_size → get_or names (name_size * i + k) 0 ≡ get_or (drop at s) k 0

-- of row i, none where it is not of the form; nothing of the rows before it changes
pub record RowIs (s : List ℕ) (at n i : ℕ) (grid grid' names names' : List ℕ) (r : Option RowRead) : Type 0 where
  pub bad-is : is_none r ≡ row_bad n (drop at s)
  pub grid_size : length grid' ≡ length grid
  pub names-size : length names' ≡ length names
  pub grid_kept : (k : ℕ) → k < max_strains * i → get_or grid' k 0 ≡ get_or grid k 0
  pub names-kept : (k : ℕ) → k < name_size * i → get_or names' k 0 ≡ get_or names k 0
  pub row : IfSome r (λ x. Row s at n i grid' names' x)

-- of rows of the form: whether a decimal is out, each entry, and each name
pub record Rows (l : List ℕ) (n : ℕ) (grid names : List ℕ) (out : Bool) : Type 0 where
  pub out-is : out ≡ decimals_out n l
  pub entries : (i j : ℕ) → i < n → j < n → get_or grid (max_strains * i + j) 0 ≡ entry_at n l i j
  pub named : (i k : ℕ) → i < n → k < name_size → get_or names (name_size * i + k) 0 ≡ get_or (row_text n l i) k 0

-- of all rows, none where they are not of the form
pub record RowsRead (s : List ℕ) (at n : ℕ) (grid grid' names names' : List ℕ) (r : Option Bool) : Type 0 where
  pub bad-is : is_none r ≡ rows_bad n (drop at s)
  pub grid_size : length grid' ≡ length grid
  pub names-size : length names' ≡ length names
  pub rows : IfSome r (λ out. Rows (drop at s) n grid' names' out)
