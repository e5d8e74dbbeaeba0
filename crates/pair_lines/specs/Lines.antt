-- The print of the pairs of a fit (RULES, The pairs of a fit): the first line of the report, then a line for each pair, in rows.
use Rattle.std.specs.Prelude.{List, [], ◌∷◌, ◌++◌, ℕ, ◌+◌, ◌-◌, ◌≤◌, ◌<◌, ℤ, pos, ◌-ℤ◌, ◌*ℤ◌, length, get_or}
use Rattle.exact.specs.LeastSquares.{path}
use Rattle.verdict.specs.declared.Rule.TheVariants.{Plain}
use Rattle.matrix.specs.Place.{measured, distance}
use Rattle.exact.specs.Table.{entry_of}
use Rattle.tree_theory.specs.Chain.{parent_of, parts_pair}
use Rattle.fit_theory.specs.Quantities.{parts_of, path_of, remainder_of, rounded_of}
use Rattle.lines.specs.Lines.{line, fit_word}
use Rattle.records.specs.Names.{max_name, name_start}
use Rattle.inner_paths.specs.Between.{Lengthened, Between}
use Rattle.pair_line.specs.Line.{pair_line}
use Rattle.pieces.specs.Pieces.{pieces}

-- q: the path over the rounded lengths, in thousandths
abbrev pub rounded_path : List ℕ → ℕ → List ℤ → ℕ × ℕ → ℤ
rounded_path ps D ns p = path (length ps) (parts_of ps) (rounded_of D ns) p

-- the line of the pair i j; `label` is what a strain is called
unfoldable pub line_of : (ℕ → List ℕ) → List ℕ → List ℕ → ℕ → List ℤ → ℕ → ℕ → List ℕ
line_of label ds ps D ns i j =
    pair_line (label i) (label j) (measured ds (i, j)) (distance ds (i, j)) (path_of ps ns (i, j)) (rounded_path ps D ns (i, j)) (remainder_of ds ps D ns (i, j))

-- the lines of strain i with each later one of N
unfoldable pub row_of : (ℕ → List ℕ) → ℕ → List ℕ → List ℕ → ℕ → List ℤ → ℕ → List ℕ
row_of label N ds ps D ns i = pieces (N - (i + 1)) (λ k. line_of label ds ps D ns i (i + 1 + k))

-- the whole print: fit N K D, and the rows
unfoldable pub pairs_text : (ℕ → List ℕ) → ℕ → List ℕ → List ℕ → ℕ → List ℤ → List ℕ
pairs_text label N ds ps D ns = line (fit_word Plain) (pos N ∷ pos (length ps) ∷ pos D ∷ []) ++ pieces N (row_of label N ds ps D ns)

-- a page for it: room for 2,016 lines of two names of ten bytes and four numbers, and for the first line
abbrev pub pairs_page : ℕ
pairs_page = 262144

-- ---- by tables that are lent
-- n names, one behind the other from a place on
pub record NamesFrom (names : List ℕ) (from n : ℕ) : Type 0 where
  pub within : name_start names from n ≤ length names
  pub short : (i : ℕ) → i < n → get_or names (name_start names from i) 0 ≤ max_name

-- the paths between inner vertices over an entry for each edge of an allowed tree
pub record Measuring (N K : ℕ) (ps : List ℕ) (x t : List ℤ) : Type 0 where
  pub lengthened : Lengthened N K ps x
  pub between : Between K (parent_of ps) (entry_of x) (K - N + 1) t

-- the line of the pair i j by the paths over two tables x and y of the edges
unfoldable pub line_by : (ℕ → List ℕ) → ℕ → List ℕ → (ℕ → ℕ) → ℕ → (x y : ℕ → ℤ) → ℕ → ℕ → List ℕ
line_by label K ds par D x y i j =
    pair_line (label i) (label j) (measured ds (i, j)) (distance ds (i, j)) (path K (parts_pair par) x (i, j)) (path K (parts_pair par) y (i, j))
    (pos D *ℤ distance ds (i, j) -ℤ path K (parts_pair par) x (i, j))

-- of strain i with each later one, and of all strains
unfoldable pub row_by : (ℕ → List ℕ) → ℕ → ℕ → List ℕ → (ℕ → ℕ) → ℕ → (x y : ℕ → ℤ) → ℕ → List ℕ
row_by label N K ds par D x y i = pieces (N - (i + 1)) (λ k. line_by label K ds par D x y i (i + 1 + k))

unfoldable pub rows_by : (ℕ → List ℕ) → ℕ → ℕ → List ℕ → (ℕ → ℕ) → ℕ → (x y : ℕ → ℤ) → List ℕ
rows_by label N K ds par D x y = pieces N (row_by label N K ds par D x y)
