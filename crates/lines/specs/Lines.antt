-- The print of a report (RULES, The print), and that of a resolved tree fitted with no proposal
-- (RULES, Resolved trees): a line is a word and numbers, a space before each, and ends in LF.
use Rattle.std.specs.Prelude.{List, [], ◌∷◌, ◌++◌, ℕ, zero, suc, ℤ, pos}
use Rattle.verdict.specs.declared.Place.{Place}
use Rattle.verdict.specs.declared.Place.TheVariants.{Nowhere, Byte, Vertex, Edge, EdgeSum}
use Rattle.verdict.specs.declared.Rule.{Rule}
use Rattle.verdict.specs.declared.Rule.TheVariants.{Plain, Drawable}
use Rattle.mean.specs.Mean.{Mean}
use Rattle.std.specs.Prelude.{Some, None}
use Rattle.writing.specs.Text.{signed}

-- the end of a line
abbrev pub end : List ℕ
end = 10 ∷ []

-- numbers, a space before each, as `show` writes a number
unfoldable pub fields_by : (ℤ → List ℕ) → List ℤ → List ℕ
fields_by show [] = []
fields_by show (z ∷ zs) = 32 ∷ (show z ++ fields_by show zs)

-- a line
abbrev pub line_by : (ℤ → List ℕ) → List ℕ → List ℤ → List ℕ
line_by show word zs = word ++ (fields_by show zs ++ end)

-- of numbers of 64 bits
abbrev pub fields : List ℤ → List ℕ
fields = fields_by signed

abbrev pub line : List ℕ → List ℤ → List ℕ
line = line_by signed

-- "refused", "fit" and "fit0" by the rule, "byte", "vertex", "edge", "length", "square", "mean", "none", "resolved"
abbrev pub refused_word : List ℕ
refused_word = 114 ∷ 101 ∷ 102 ∷ 117 ∷ 115 ∷ 101 ∷ 100 ∷ []

abbrev pub fit_word : Rule → List ℕ
fit_word Plain = 102 ∷ 105 ∷ 116 ∷ []
fit_word Drawable = 102 ∷ 105 ∷ 116 ∷ 48 ∷ []

abbrev pub byte_word : List ℕ
byte_word = 98 ∷ 121 ∷ 116 ∷ 101 ∷ []

abbrev pub vertex_word : List ℕ
vertex_word = 118 ∷ 101 ∷ 114 ∷ 116 ∷ 101 ∷ 120 ∷ []

abbrev pub edge_word : List ℕ
edge_word = 101 ∷ 100 ∷ 103 ∷ 101 ∷ []

abbrev pub length_word : List ℕ
length_word = 108 ∷ 101 ∷ 110 ∷ 103 ∷ 116 ∷ 104 ∷ []

abbrev pub square_word : List ℕ
square_word = 115 ∷ 113 ∷ 117 ∷ 97 ∷ 114 ∷ 101 ∷ []

abbrev pub mean_word : List ℕ
mean_word = 109 ∷ 101 ∷ 97 ∷ 110 ∷ []

abbrev pub none_word : List ℕ
none_word = 110 ∷ 111 ∷ 110 ∷ 101 ∷ []

abbrev pub resolved_word : List ℕ
resolved_word = 114 ∷ 101 ∷ 115 ∷ 111 ∷ 108 ∷ 118 ∷ 101 ∷ 100 ∷ []

-- the place of a refusal: a space, what it is, and its number; an edge's sum behind the edge; nothing where there is no place
abbrev pub place_fields : Place → List ℕ
place_fields Nowhere = []
place_fields (Byte b) = 32 ∷ (byte_word ++ fields (pos b ∷ []))
place_fields (Vertex v) = 32 ∷ (vertex_word ++ fields (pos v ∷ []))
place_fields (Edge e) = 32 ∷ (edge_word ++ fields (pos e ∷ []))
place_fields (EdgeSum e z) = 32 ∷ (edge_word ++ fields (pos e ∷ z ∷ []))

-- refused, the number, and the place
abbrev pub refused_line : ℕ → Place → List ℕ
refused_line k p = refused_word ++ (fields (pos k ∷ []) ++ (place_fields p ++ end))

-- a line for each of the first K edges: edge, the edge, its row of numbers
unfoldable pub edge_lines_by : (ℤ → List ℕ) → ℕ → (ℕ → List ℤ) → List ℕ
edge_lines_by show zero row = []
edge_lines_by show (suc K) row = edge_lines_by show K row ++ line_by show edge_word (pos K ∷ row K)

abbrev pub edge_lines : ℕ → (ℕ → List ℤ) → List ℕ
edge_lines = edge_lines_by signed

-- the line of the mean square: mean, F and what it is over; mean none where it is over nothing
abbrev pub mean_line_by : (ℤ → List ℕ) → ℤ → Mean → List ℕ
mean_line_by show F None = line_by show (mean_word ++ (32 ∷ none_word)) []
mean_line_by show F (Some d) = line_by show mean_word (F ∷ d ∷ [])

abbrev pub mean_line : ℤ → Mean → List ℕ
mean_line = mean_line_by signed

-- the whole print of a fit: fit or fit0, N K D; edge, the edge, n, m; length, the numerator of the tree length; square F R H; the line of the
-- mean square
unfoldable pub fit_text_by : (ℤ → List ℕ) → Rule → ℕ → ℕ → ℕ → (ℕ → ℤ) → (ℕ → ℤ) → ℤ → ℤ → ℤ → ℤ → Mean → List ℕ
fit_text_by show rule N K D n m total F R H mean =
    line_by show (fit_word rule) (pos N ∷ pos K ∷ pos D ∷ [])
    ++ (edge_lines_by show K (λ v. n v ∷ m v ∷ [])
    ++ (line_by show length_word (total ∷ [])
    ++ (line_by show square_word (F ∷ R ∷ H ∷ [])
    ++ mean_line_by show F mean)))

abbrev pub fit_text : Rule → ℕ → ℕ → ℕ → (ℕ → ℤ) → (ℕ → ℤ) → ℤ → ℤ → ℤ → ℤ → Mean → List ℕ
fit_text = fit_text_by signed

-- the whole print of a resolved tree: resolved N K; edge, the edge, its numerator and its denominator, m; square R H
unfoldable pub resolved_text : ℕ → ℕ → (ℕ → ℤ) → (ℕ → ℕ) → (ℕ → ℤ) → ℤ → ℤ → List ℕ
resolved_text N K n d m R H =
    line resolved_word (pos N ∷ pos K ∷ [])
    ++ (edge_lines K (λ v. n v ∷ pos (d v) ∷ m v ∷ [])
    ++ line square_word (R ∷ H ∷ []))
