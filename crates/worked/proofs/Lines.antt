-- The checker computes the print of sheet A from the definitions: nine lines, seven of its resolved tree, and refusals with their places.
use mathlib.Core.Path.{◌≡◌, refl}
use mathlib.Core.List.{List, [], ◌∷◌, ◌++◌}
use Prim.Native.Nat.{ℕ}
use lib.IntN.{ℤ, pos, negsuc}
use lib.ListN.{get_or}
use Rattle.verdict.specs.declared.Place.TheVariants.{Nowhere, Byte, Vertex, Edge, EdgeSum}
use Rattle.verdict.specs.declared.Rule.TheVariants.{Plain}
use Rattle.std.specs.Prelude.{Some, None}
use Rattle.writing.specs.Text.{digits}
use Rattle.lines.specs.Lines.{fields, line, mean_line, refused_word, refused_line, edge_lines, fit_text, resolved_text, fields_by, fit_text_by, edge_lines_by}

-- "fit 4 5 2", five edges, "length 23", "square 2 1000000 44", "mean 2 2", each with its LF, as bytes
abbrev pub sheet-a : List ℕ
sheet-a =
    (102 ∷ 105 ∷ 116 ∷ 32 ∷ 52 ∷ 32 ∷ 53 ∷ 32 ∷ 50 ∷ 10 ∷ [])
    ++ (101 ∷ 100 ∷ 103 ∷ 101 ∷ 32 ∷ 48 ∷ 32 ∷ 51 ∷ 32 ∷ 49 ∷ 53 ∷ 48 ∷ 48 ∷ 10 ∷ [])
    ++ (101 ∷ 100 ∷ 103 ∷ 101 ∷ 32 ∷ 49 ∷ 32 ∷ 51 ∷ 32 ∷ 49 ∷ 53 ∷ 48 ∷ 48 ∷ 10 ∷ [])
    ++ (101 ∷ 100 ∷ 103 ∷ 101 ∷ 32 ∷ 50 ∷ 32 ∷ 51 ∷ 32 ∷ 49 ∷ 53 ∷ 48 ∷ 48 ∷ 10 ∷ [])
    ++ (101 ∷ 100 ∷ 103 ∷ 101 ∷ 32 ∷ 51 ∷ 32 ∷ 55 ∷ 32 ∷ 51 ∷ 53 ∷ 48 ∷ 48 ∷ 10 ∷ [])
    ++ (101 ∷ 100 ∷ 103 ∷ 101 ∷ 32 ∷ 52 ∷ 32 ∷ 55 ∷ 32 ∷ 51 ∷ 53 ∷ 48 ∷ 48 ∷ 10 ∷ [])
    ++ (108 ∷ 101 ∷ 110 ∷ 103 ∷ 116 ∷ 104 ∷ 32 ∷ 50 ∷ 51 ∷ 10 ∷ [])
    ++ (115 ∷ 113 ∷ 117 ∷ 97 ∷ 114 ∷ 101 ∷ 32 ∷ 50 ∷ 32 ∷ 49 ∷ 48 ∷ 48 ∷ 48 ∷ 48 ∷ 48 ∷ 48 ∷ 32 ∷ 52 ∷ 52 ∷ 10 ∷ [])
    ++ (109 ∷ 101 ∷ 97 ∷ 110 ∷ 32 ∷ 50 ∷ 32 ∷ 50 ∷ 10 ∷ [])

pub print_of-a :
    fit_text Plain 4 5 2 (λ v. get_or (pos 3 ∷ pos 3 ∷ pos 3 ∷ pos 7 ∷ pos 7 ∷ []) v (pos 0)) (λ v. get_or (pos 1500 ∷ pos 1500 ∷ pos 1500 ∷ pos 3500 ∷ pos 3500 ∷ []) v (pos 0)) (pos 23) (pos 2) (pos 1000000) (pos 44) (Some (pos 2))
    ≡ sheet-a
unfolding digits fields_by edge_lines_by fit_text_by
print_of-a = refl

-- "mean none", with its LF
pub print_of-no-mean : (F : ℤ) → mean_line F None ≡ 109 ∷ 101 ∷ 97 ∷ 110 ∷ 32 ∷ 110 ∷ 111 ∷ 110 ∷ 101 ∷ 10 ∷ []
unfolding fields_by
print_of-no-mean F = refl

-- "refused 14 edge 0 -2", "refused 9 vertex 4", "refused 13 edge 7", "refused 2 byte 0", "refused 6", each with its LF
pub prints_of_refusals :
    (refused_line 14 (EdgeSum 0 (negsuc 1)) ≡ 114 ∷ 101 ∷ 102 ∷ 117 ∷ 115 ∷ 101 ∷ 100 ∷ 32 ∷ 49 ∷ 52 ∷ 32 ∷ 101 ∷ 100 ∷ 103 ∷ 101 ∷ 32 ∷ 48 ∷ 32 ∷ 45 ∷ 50 ∷ 10 ∷ [])
    × (refused_line 9 (Vertex 4) ≡ 114 ∷ 101 ∷ 102 ∷ 117 ∷ 115 ∷ 101 ∷ 100 ∷ 32 ∷ 57 ∷ 32 ∷ 118 ∷ 101 ∷ 114 ∷ 116 ∷ 101 ∷ 120 ∷ 32 ∷ 52 ∷ 10 ∷ [])
    × (refused_line 13 (Edge 7) ≡ 114 ∷ 101 ∷ 102 ∷ 117 ∷ 115 ∷ 101 ∷ 100 ∷ 32 ∷ 49 ∷ 51 ∷ 32 ∷ 101 ∷ 100 ∷ 103 ∷ 101 ∷ 32 ∷ 55 ∷ 10 ∷ [])
    × (refused_line 2 (Byte 0) ≡ 114 ∷ 101 ∷ 102 ∷ 117 ∷ 115 ∷ 101 ∷ 100 ∷ 32 ∷ 50 ∷ 32 ∷ 98 ∷ 121 ∷ 116 ∷ 101 ∷ 32 ∷ 48 ∷ 10 ∷ [])
    × (refused_line 6 Nowhere ≡ 114 ∷ 101 ∷ 102 ∷ 117 ∷ 115 ∷ 101 ∷ 100 ∷ 32 ∷ 54 ∷ 10 ∷ [])
unfolding digits fields_by
prints_of_refusals = (refl, refl, refl, refl, refl)

-- where there is no place the line is a word and a number
pub print_without-place : (k : ℕ) → refused_line k Nowhere ≡ line refused_word (pos k ∷ [])
print_without-place k = refl

-- "resolved 4 5", five edges, "square 1000000 44"
abbrev pub tree-a : List ℕ
tree-a =
    (114 ∷ 101 ∷ 115 ∷ 111 ∷ 108 ∷ 118 ∷ 101 ∷ 100 ∷ 32 ∷ 52 ∷ 32 ∷ 53 ∷ 10 ∷ [])
    ++ (101 ∷ 100 ∷ 103 ∷ 101 ∷ 32 ∷ 48 ∷ 32 ∷ 51 ∷ 32 ∷ 50 ∷ 32 ∷ 49 ∷ 53 ∷ 48 ∷ 48 ∷ 10 ∷ [])
    ++ (101 ∷ 100 ∷ 103 ∷ 101 ∷ 32 ∷ 49 ∷ 32 ∷ 51 ∷ 32 ∷ 50 ∷ 32 ∷ 49 ∷ 53 ∷ 48 ∷ 48 ∷ 10 ∷ [])
    ++ (101 ∷ 100 ∷ 103 ∷ 101 ∷ 32 ∷ 50 ∷ 32 ∷ 51 ∷ 32 ∷ 50 ∷ 32 ∷ 49 ∷ 53 ∷ 48 ∷ 48 ∷ 10 ∷ [])
    ++ (101 ∷ 100 ∷ 103 ∷ 101 ∷ 32 ∷ 51 ∷ 32 ∷ 55 ∷ 32 ∷ 50 ∷ 32 ∷ 51 ∷ 53 ∷ 48 ∷ 48 ∷ 10 ∷ [])
    ++ (101 ∷ 100 ∷ 103 ∷ 101 ∷ 32 ∷ 52 ∷ 32 ∷ 55 ∷ 32 ∷ 50 ∷ 32 ∷ 51 ∷ 53 ∷ 48 ∷ 48 ∷ 10 ∷ [])
    ++ (115 ∷ 113 ∷ 117 ∷ 97 ∷ 114 ∷ 101 ∷ 32 ∷ 49 ∷ 48 ∷ 48 ∷ 48 ∷ 48 ∷ 48 ∷ 48 ∷ 32 ∷ 52 ∷ 52 ∷ 10 ∷ [])

pub print_of-tree-a :
    resolved_text 4 5 (λ v. get_or (pos 3 ∷ pos 3 ∷ pos 3 ∷ pos 7 ∷ pos 7 ∷ []) v (pos 0)) (λ v. 2) (λ v. get_or (pos 1500 ∷ pos 1500 ∷ pos 1500 ∷ pos 3500 ∷ pos 3500 ∷ []) v (pos 0)) (pos 1000000) (pos 44)
    ≡ tree-a
unfolding digits fields_by edge_lines_by resolved_text
print_of-tree-a = refl
