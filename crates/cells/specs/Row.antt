-- The cells of a row, one behind the other: any gap or none before the first, a gap between two.
use Rattle.std.specs.Prelude.{◌≡◌, Bool, ◌&&◌, ◌||◌, List, ℕ, zero, suc, ◌+◌, ◌<◌, ◌≤◌, eqb, ltb, length, get_or, drop, Option, is_none, IfSome}
use Rattle.verdict.specs.Table.{some}
use Rattle.cells.specs.Cell.{gap, cell_size, cell_out, cell_entry}
use Rattle.cells.specs.declared.RowRead.{RowRead}

-- the text behind the gap at the front: a cell begins there
abbrev pub front : List ℕ → List ℕ
front l = drop (gap l) l

-- the text behind that cell
abbrev pub behind : List ℕ → List ℕ
behind l = drop (cell_size (front l)) (front l)

-- the text behind the first c cells
unfoldable pub rest : ℕ → List ℕ → List ℕ
rest zero l = l
rest (suc c) l = behind (rest c l)

-- where cell c begins
abbrev pub cell_text : List ℕ → ℕ → List ℕ
cell_text l c = front (rest c l)

-- 17: cell c is not of the form: none is there, or it stands right behind another
abbrev pub cell_bad : List ℕ → ℕ → Bool
cell_bad l c = eqb (cell_size (cell_text l c)) 0 || (ltb 0 c && eqb (gap (rest c l)) 0)

-- n cells of the form, read from `at`: where they end, whether one of them is out, and their entries from `base` on
pub record Cells (s : List ℕ) (at n base : ℕ) (entries : List ℕ) (r : RowRead) : Type 0 where
  pub within : r.end ≤ length s
  pub behind-all : drop r.end s ≡ rest n (drop at s)
  pub out-is : r.out ≡ some n (λ c. cell_out (cell_text (drop at s) c))
  pub each : (c : ℕ) → c < n → get_or entries (base + c) 0 ≡ cell_entry (cell_text (drop at s) c)

-- what is read of n cells, nothing where one is not of the form; no entry before `base` changes
pub record Read (s : List ℕ) (at n base : ℕ) (before after : List ℕ) (r : Option RowRead) : Type 0 where
  pub bad-is : is_none r ≡ some n (cell_bad (drop at s))
  pub size : length after ≡ length before
  pub kept : (k : ℕ) → k < base → get_or after k 0 ≡ get_or before k 0
  pub cells : IfSome r (λ x. Cells s at n base after x)
