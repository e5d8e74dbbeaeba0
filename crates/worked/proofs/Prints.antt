-- The prints of sheet A, computed by the checker from its bytes: nine lines of the whole sheet, seven of its first two records, which
-- are a sheet without lengths, and two refusals with their places; the print of a sheet of three strains; of sheet A where a pair is missing; and
-- prints where no length may be negative.
use mathlib.Core.Path.{◌≡◌, refl}
use mathlib.Core.List.{List, [], ◌∷◌, ◌++◌}
use Prim.Native.Nat.{ℕ}
use lib.ListN.{set, drop}
use Rattle.exact.specs.Sum.{sum, pairs, ind}
use Rattle.exact.specs.Table.{table_from}
use Rattle.exact.specs.LeastSquares.{path, hops}
use Rattle.exact.specs.Nearest.{nearest}
use Rattle.exact.specs.Fraction.{divisor_in}
use Rattle.verdict.specs.Table.{some, first, count}
use Rattle.verdict.specs.declared.Rule.TheVariants.{Plain, Drawable}
use Rattle.matrix.specs.Place.{place, known, pair_at, row_start, row_place}
use Rattle.tree_theory.specs.Chain.{lift, below, parts}
use Rattle.direct_theory.specs.Children.{child_to}
use Rattle.direct_theory.specs.Averages.{size, between}
use Rattle.writing.specs.Text.{digits}
use Rattle.lines.specs.Lines.{fields, edge_lines, fit_text, resolved_text, fields_by, fit_text_by, edge_lines_by}
use Rattle.worked.proofs.Lines.{sheet-a, tree-a}
use Rattle.endian.specs.Bytes.{number}
use Rattle.records.specs.Form.{start_of, records_tests}
use Rattle.worked.proofs.Bytes.{sheet_a, bare_a}
use Rattle.pages.specs.Texts.{sheet_text, unfitted_text}

pub print_of-a : sheet_text Plain sheet_a ≡ sheet-a
unfolding sum pairs ind table_from path hops nearest some first count place known pair_at row_start row_place lift below parts digits fields_by edge_lines_by fit_text_by number start_of records_tests
print_of-a = refl

pub print_of-tree-a : unfitted_text bare_a ≡ tree-a
unfolding sum pairs ind table_from path hops nearest divisor_in some first count place known pair_at row_start row_place lift below parts child_to size between digits fields_by edge_lines_by resolved_text number start_of records_tests
print_of-tree-a = refl

-- sheet A with the numerator of its last edge 6 in place of 7: "refused 14 edge 0 2"
abbrev pub sheet_off : List ℕ
sheet_off = set sheet_a 79 6

pub print_of-off : sheet_text Plain sheet_off ≡ 114 ∷ 101 ∷ 102 ∷ 117 ∷ 115 ∷ 101 ∷ 100 ∷ 32 ∷ 49 ∷ 52 ∷ 32 ∷ 101 ∷ 100 ∷ 103 ∷ 101 ∷ 32 ∷ 48 ∷ 32 ∷ 50 ∷ 10 ∷ []
unfolding sum pairs ind table_from path hops nearest some first count place known pair_at row_start row_place lift below parts digits fields_by edge_lines_by fit_text_by number start_of records_tests
print_of-off = refl

-- the empty sheet: "refused 2 byte 0"
pub print_of-none : sheet_text Plain [] ≡ 114 ∷ 101 ∷ 102 ∷ 117 ∷ 115 ∷ 101 ∷ 100 ∷ 32 ∷ 50 ∷ 32 ∷ 98 ∷ 121 ∷ 116 ∷ 101 ∷ 32 ∷ 48 ∷ 10 ∷ []
unfolding sum pairs ind table_from path hops nearest some first count place known pair_at row_start row_place lift below parts digits fields_by edge_lines_by fit_text_by number start_of records_tests
print_of-none = refl

-- three strains, distances 3 4 5, lengths 1 2 3 over 1: there are as many edges as pairs, and no mean square
abbrev pub sheet_three : List ℕ
sheet_three =
    8 ∷ 0 ∷ 0 ∷ 0 ∷ 1 ∷ 0
    ∷ 3 ∷ 0 ∷ 3 ∷ 0 ∷ 4 ∷ 0 ∷ 5 ∷ 0
    ∷ 7 ∷ 0 ∷ 0 ∷ 0 ∷ 2 ∷ 0
    ∷ 3 ∷ 0 ∷ 4 ∷ 0 ∷ 3 ∷ 3 ∷ 3
    ∷ 30 ∷ 0 ∷ 0 ∷ 0 ∷ 3 ∷ 0
    ∷ 1 ∷ 0 ∷ 0 ∷ 0 ∷ 3 ∷ 0
    ∷ 1 ∷ 0 ∷ 0 ∷ 0 ∷ 0 ∷ 0 ∷ 0 ∷ 0
    ∷ 2 ∷ 0 ∷ 0 ∷ 0 ∷ 0 ∷ 0 ∷ 0 ∷ 0
    ∷ 3 ∷ 0 ∷ 0 ∷ 0 ∷ 0 ∷ 0 ∷ 0 ∷ 0
    ∷ []

-- "fit 3 3 1", three edges, "length 6", "square 0 0 12", "mean none"
pub print_of-three :
    sheet_text Plain sheet_three
    ≡ (102 ∷ 105 ∷ 116 ∷ 32 ∷ 51 ∷ 32 ∷ 51 ∷ 32 ∷ 49 ∷ 10 ∷ [])
    ++ (101 ∷ 100 ∷ 103 ∷ 101 ∷ 32 ∷ 48 ∷ 32 ∷ 49 ∷ 32 ∷ 49 ∷ 48 ∷ 48 ∷ 48 ∷ 10 ∷ [])
    ++ (101 ∷ 100 ∷ 103 ∷ 101 ∷ 32 ∷ 49 ∷ 32 ∷ 50 ∷ 32 ∷ 50 ∷ 48 ∷ 48 ∷ 48 ∷ 10 ∷ [])
    ++ (101 ∷ 100 ∷ 103 ∷ 101 ∷ 32 ∷ 50 ∷ 32 ∷ 51 ∷ 32 ∷ 51 ∷ 48 ∷ 48 ∷ 48 ∷ 10 ∷ [])
    ++ (108 ∷ 101 ∷ 110 ∷ 103 ∷ 116 ∷ 104 ∷ 32 ∷ 54 ∷ 10 ∷ [])
    ++ (115 ∷ 113 ∷ 117 ∷ 97 ∷ 114 ∷ 101 ∷ 32 ∷ 48 ∷ 32 ∷ 48 ∷ 32 ∷ 49 ∷ 50 ∷ 10 ∷ [])
    ++ (109 ∷ 101 ∷ 97 ∷ 110 ∷ 32 ∷ 110 ∷ 111 ∷ 110 ∷ 101 ∷ 10 ∷ [])
unfolding sum pairs ind table_from path hops nearest some first count place known pair_at row_start row_place lift below parts digits fields_by edge_lines_by fit_text_by number start_of records_tests
print_of-three = refl

-- sheet A where nobody measured the pair 01: its lengths still fit, and so do 2 2 3 7 8 over 2, with the same sum of squares
abbrev pub sheet_gap : List ℕ
sheet_gap = set (set sheet_a 8 255) 9 255

abbrev pub sheet_other : List ℕ
sheet_other = set (set (set sheet_gap 47 2) 55 2) 79 8

pub print_of-gap :
    sheet_text Plain sheet_gap
    ≡ (102 ∷ 105 ∷ 116 ∷ 32 ∷ 52 ∷ 32 ∷ 53 ∷ 32 ∷ 50 ∷ 10 ∷ [])
    ++ (101 ∷ 100 ∷ 103 ∷ 101 ∷ 32 ∷ 48 ∷ 32 ∷ 51 ∷ 32 ∷ 49 ∷ 53 ∷ 48 ∷ 48 ∷ 10 ∷ [])
    ++ (101 ∷ 100 ∷ 103 ∷ 101 ∷ 32 ∷ 49 ∷ 32 ∷ 51 ∷ 32 ∷ 49 ∷ 53 ∷ 48 ∷ 48 ∷ 10 ∷ [])
    ++ (101 ∷ 100 ∷ 103 ∷ 101 ∷ 32 ∷ 50 ∷ 32 ∷ 51 ∷ 32 ∷ 49 ∷ 53 ∷ 48 ∷ 48 ∷ 10 ∷ [])
    ++ (101 ∷ 100 ∷ 103 ∷ 101 ∷ 32 ∷ 51 ∷ 32 ∷ 55 ∷ 32 ∷ 51 ∷ 53 ∷ 48 ∷ 48 ∷ 10 ∷ [])
    ++ (101 ∷ 100 ∷ 103 ∷ 101 ∷ 32 ∷ 52 ∷ 32 ∷ 55 ∷ 32 ∷ 51 ∷ 53 ∷ 48 ∷ 48 ∷ 10 ∷ [])
    ++ (108 ∷ 101 ∷ 110 ∷ 103 ∷ 116 ∷ 104 ∷ 32 ∷ 50 ∷ 51 ∷ 10 ∷ [])
    ++ (115 ∷ 113 ∷ 117 ∷ 97 ∷ 114 ∷ 101 ∷ 32 ∷ 50 ∷ 32 ∷ 49 ∷ 48 ∷ 48 ∷ 48 ∷ 48 ∷ 48 ∷ 48 ∷ 32 ∷ 52 ∷ 48 ∷ 10 ∷ [])
    ++ (109 ∷ 101 ∷ 97 ∷ 110 ∷ 32 ∷ 110 ∷ 111 ∷ 110 ∷ 101 ∷ 10 ∷ [])
unfolding sum pairs ind table_from path hops nearest some first count place known pair_at row_start row_place lift below parts digits fields_by edge_lines_by fit_text_by number start_of records_tests
print_of-gap = refl

pub print_of-other :
    sheet_text Plain sheet_other
    ≡ (102 ∷ 105 ∷ 116 ∷ 32 ∷ 52 ∷ 32 ∷ 53 ∷ 32 ∷ 50 ∷ 10 ∷ [])
    ++ (101 ∷ 100 ∷ 103 ∷ 101 ∷ 32 ∷ 48 ∷ 32 ∷ 50 ∷ 32 ∷ 49 ∷ 48 ∷ 48 ∷ 48 ∷ 10 ∷ [])
    ++ (101 ∷ 100 ∷ 103 ∷ 101 ∷ 32 ∷ 49 ∷ 32 ∷ 50 ∷ 32 ∷ 49 ∷ 48 ∷ 48 ∷ 48 ∷ 10 ∷ [])
    ++ (101 ∷ 100 ∷ 103 ∷ 101 ∷ 32 ∷ 50 ∷ 32 ∷ 51 ∷ 32 ∷ 49 ∷ 53 ∷ 48 ∷ 48 ∷ 10 ∷ [])
    ++ (101 ∷ 100 ∷ 103 ∷ 101 ∷ 32 ∷ 51 ∷ 32 ∷ 55 ∷ 32 ∷ 51 ∷ 53 ∷ 48 ∷ 48 ∷ 10 ∷ [])
    ++ (101 ∷ 100 ∷ 103 ∷ 101 ∷ 32 ∷ 52 ∷ 32 ∷ 56 ∷ 32 ∷ 52 ∷ 48 ∷ 48 ∷ 48 ∷ 10 ∷ [])
    ++ (108 ∷ 101 ∷ 110 ∷ 103 ∷ 116 ∷ 104 ∷ 32 ∷ 50 ∷ 50 ∷ 10 ∷ [])
    ++ (115 ∷ 113 ∷ 117 ∷ 97 ∷ 114 ∷ 101 ∷ 32 ∷ 50 ∷ 32 ∷ 49 ∷ 48 ∷ 48 ∷ 48 ∷ 48 ∷ 48 ∷ 48 ∷ 32 ∷ 52 ∷ 48 ∷ 10 ∷ [])
    ++ (109 ∷ 101 ∷ 97 ∷ 110 ∷ 32 ∷ 110 ∷ 111 ∷ 110 ∷ 101 ∷ 10 ∷ [])
unfolding sum pairs ind table_from path hops nearest some first count place known pair_at row_start row_place lift below parts digits fields_by edge_lines_by fit_text_by number start_of records_tests
print_of-other = refl

-- where strain 0 is measured with none: "refused 26 edge 0"
pub print_of-unseen : sheet_text Plain (set (set (set (set sheet_gap 10 255) 11 255) 12 255) 13 255) ≡ 114 ∷ 101 ∷ 102 ∷ 117 ∷ 115 ∷ 101 ∷ 100 ∷ 32 ∷ 50 ∷ 54 ∷ 32 ∷ 101 ∷ 100 ∷ 103 ∷ 101 ∷ 32 ∷ 48 ∷ 10 ∷ []
unfolding sum pairs ind table_from path hops nearest some first count place known pair_at row_start row_place lift below parts digits fields_by edge_lines_by fit_text_by number start_of records_tests
print_of-unseen = refl

-- where no length may be negative: sheet A, whose lengths are all positive, has the same lines but for the first word
pub print0_of-a : sheet_text Drawable sheet_a ≡ (102 ∷ 105 ∷ 116 ∷ 48 ∷ 32 ∷ 52 ∷ 32 ∷ 53 ∷ 32 ∷ 50 ∷ 10 ∷ []) ++ drop 10 sheet-a
unfolding sum pairs ind table_from path hops nearest some first count place known pair_at row_start row_place lift below parts digits fields_by edge_lines_by fit_text_by number start_of records_tests
print0_of-a = refl

-- three strains at 1 5 1: the fit is 5/2 -3/2 5/2, and that without negative lengths 2 0 2, the sum of the zero edge being -2
abbrev pub sheet_drawn : List ℕ
sheet_drawn = set (set (set (set (set (set sheet_three 8 1) 10 5) 12 1) 39 2) 47 0) 55 2

pub print0_of_drawn :
    sheet_text Drawable sheet_drawn
    ≡ (102 ∷ 105 ∷ 116 ∷ 48 ∷ 32 ∷ 51 ∷ 32 ∷ 51 ∷ 32 ∷ 49 ∷ 10 ∷ [])
    ++ (101 ∷ 100 ∷ 103 ∷ 101 ∷ 32 ∷ 48 ∷ 32 ∷ 50 ∷ 32 ∷ 50 ∷ 48 ∷ 48 ∷ 48 ∷ 10 ∷ [])
    ++ (101 ∷ 100 ∷ 103 ∷ 101 ∷ 32 ∷ 49 ∷ 32 ∷ 48 ∷ 32 ∷ 48 ∷ 10 ∷ [])
    ++ (101 ∷ 100 ∷ 103 ∷ 101 ∷ 32 ∷ 50 ∷ 32 ∷ 50 ∷ 32 ∷ 50 ∷ 48 ∷ 48 ∷ 48 ∷ 10 ∷ [])
    ++ (108 ∷ 101 ∷ 110 ∷ 103 ∷ 116 ∷ 104 ∷ 32 ∷ 52 ∷ 10 ∷ [])
    ++ (115 ∷ 113 ∷ 117 ∷ 97 ∷ 114 ∷ 101 ∷ 32 ∷ 51 ∷ 32 ∷ 51 ∷ 48 ∷ 48 ∷ 48 ∷ 48 ∷ 48 ∷ 48 ∷ 32 ∷ 49 ∷ 50 ∷ 10 ∷ [])
    ++ (109 ∷ 101 ∷ 97 ∷ 110 ∷ 32 ∷ 110 ∷ 111 ∷ 110 ∷ 101 ∷ 10 ∷ [])
unfolding sum pairs ind table_from path hops nearest some first count place known pair_at row_start row_place lift below parts digits fields_by edge_lines_by fit_text_by number start_of records_tests
print0_of_drawn = refl

-- "refused 14 edge 1 -2" by the plain rule
pub print_of_drawn : sheet_text Plain sheet_drawn ≡ 114 ∷ 101 ∷ 102 ∷ 117 ∷ 115 ∷ 101 ∷ 100 ∷ 32 ∷ 49 ∷ 52 ∷ 32 ∷ 101 ∷ 100 ∷ 103 ∷ 101 ∷ 32 ∷ 49 ∷ 32 ∷ 45 ∷ 50 ∷ 10 ∷ []
unfolding sum pairs ind table_from path hops nearest some first count place known pair_at row_start row_place lift below parts digits fields_by edge_lines_by fit_text_by number start_of records_tests
print_of_drawn = refl

-- three strains at 3 4 5: 5 0 11 over 3, "refused 23 edge 1 8"; 0 0 5 over 1, where two zero edges have positive sums and the
-- positive edge behind them has one that is not zero, "refused 14 edge 2 -1"; a first numerator of -1 (all bytes 255), "refused 22 edge 0"
pub prints0_of_refusals :
    (sheet_text Drawable (set (set (set (set sheet_three 33 3) 39 5) 47 0) 55 11) ≡ 114 ∷ 101 ∷ 102 ∷ 117 ∷ 115 ∷ 101 ∷ 100 ∷ 32 ∷ 50 ∷ 51 ∷ 32 ∷ 101 ∷ 100 ∷ 103 ∷ 101 ∷ 32 ∷ 49 ∷ 32 ∷ 56 ∷ 10 ∷ [])
    × (sheet_text Drawable (set (set (set sheet_three 39 0) 47 0) 55 5) ≡ 114 ∷ 101 ∷ 102 ∷ 117 ∷ 115 ∷ 101 ∷ 100 ∷ 32 ∷ 49 ∷ 52 ∷ 32 ∷ 101 ∷ 100 ∷ 103 ∷ 101 ∷ 32 ∷ 50 ∷ 32 ∷ 45 ∷ 49 ∷ 10 ∷ [])
    × (sheet_text Drawable (set (set (set (set (set (set (set (set sheet_three 39 255) 40 255) 41 255) 42 255) 43 255) 44 255) 45 255) 46 255) ≡ 114 ∷ 101 ∷ 102 ∷ 117 ∷ 115 ∷ 101 ∷ 100 ∷ 32 ∷ 50 ∷ 50 ∷ 32 ∷ 101 ∷ 100 ∷ 103 ∷ 101 ∷ 32 ∷ 48 ∷ 10 ∷ [])
unfolding sum pairs ind table_from path hops nearest some first count place known pair_at row_start row_place lift below parts digits fields_by edge_lines_by fit_text_by number start_of records_tests
prints0_of_refusals = (refl, refl, refl)
