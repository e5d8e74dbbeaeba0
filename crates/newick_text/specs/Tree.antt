-- Trees and their text (RULES, Trees in text). A vertex is a name, or vertices parted by commas in round brackets; a colon and a length
-- follow every vertex but the root; the root is bracketed, and a semicolon ends the text.
use Rattle.std.specs.Prelude.{◌≡◌, Bool, true, cond, List, [], ◌∷◌, ◌++◌, ℕ, ◌+◌, ◌-◌, ◌<◌, ◌≤◌, length}
use Rattle.names.specs.Name.{is_name}
use Rattle.newick_text.specs.Length.{is_length}

mutual
  -- a vertex: a leaf with its name, or a bracket with its children. No inner vertex has a number here: two tables that differ in the
  -- numbers of inner vertices alone are one tree
  pub data Tree : Type 0 where
    leaf : List ℕ → Tree
    node : Row → Tree

  -- children in the order of the text, each with its length as it is written
  pub data Row : Type 0 where
    none : Row
    some : Tree → List ℕ → Row → Row

-- the text of a vertex with k behind it; of children, where `lead` stands before the first and a comma before each other
unfoldable mutual
  pub text_then : Tree → List ℕ → List ℕ
  text_then (leaf n) k = n ++ k
  text_then (node r) k = row_then r 40 k

  pub row_then : Row → ℕ → List ℕ → List ℕ
  row_then none lead k = 41 ∷ k
  row_then (some t l r) lead k = lead ∷ text_then t (58 ∷ (l ++ row_then r 44 k))

-- a sum over a tree: `leaves` of each leaf's name, `edges` of each length, `brackets` for each bracket
unfoldable mutual
  pub tally : (List ℕ → ℕ) → (List ℕ → ℕ) → ℕ → Tree → ℕ
  tally leaves edges brackets (leaf n) = leaves n
  tally leaves edges brackets (node r) = brackets + row_tally leaves edges brackets r

  pub row_tally : (List ℕ → ℕ) → (List ℕ → ℕ) → ℕ → Row → ℕ
  row_tally leaves edges brackets none = 0
  row_tally leaves edges brackets (some t l r) = tally leaves edges brackets t + (edges l + row_tally leaves edges brackets r)

-- how many bytes the text of a vertex has: its name, or a bracket that closes; before each child a bracket or a comma, behind it a colon
-- and its length
abbrev pub size_of : Tree → ℕ
size_of t = tally length (λ l. 2 + length l) 1 t

-- of children, with the bracket that closes
abbrev pub row_size : Row → ℕ
row_size r = 1 + row_tally length (λ l. 2 + length l) 1 r

-- how many leaves and how many brackets there are
abbrev pub leaves_of : Tree → ℕ
leaves_of t = tally (λ _. 1) (λ _. 0) 0 t

abbrev pub brackets_of : Tree → ℕ
brackets_of t = tally (λ _. 0) (λ _. 0) 1 t

-- how many leaves have a name that p holds of
abbrev pub leaves_with : (List ℕ → Bool) → Tree → ℕ
leaves_with p t = tally (λ n. cond (p n) 1 0) (λ _. 0) 0 t

-- there is a child
abbrev pub Some : Row → Type 0
Some none = ⊥
Some (some t l r) = Unit

-- what the form asks where m more brackets may be open: names and lengths are of their forms, brackets are not empty and nest no deeper
unfoldable mutual
  pub Formed : Tree → ℕ → Type 0
  Formed (leaf n) m = is_name n ≡ true
  Formed (node r) m = (0 < m) × Some r × RowFormed r (m - 1)

  pub RowFormed : Row → ℕ → Type 0
  RowFormed none m = Unit
  RowFormed (some t l r) m = Formed t m × (is_length l ≡ true) × RowFormed r m

-- the most brackets that may be open at once, and the most bytes of a text
abbrev pub max_open : ℕ
max_open = 62

abbrev pub max_text : ℕ
max_text = 65536

-- the text of a tree whose root has the children r
abbrev pub text_of : Row → List ℕ
text_of r = row_then r 40 (59 ∷ [])

-- a text of the form, and the children of its root
pub record Text (s : List ℕ) (r : Row) : Type 0 where
  pub short : length s ≤ max_text
  pub text : s ≡ text_of r
  pub formed : Formed (node r) max_open
