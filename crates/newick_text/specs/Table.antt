-- Trees and tables. From a table of parents the tree of a vertex, with children in rising number; from a tree its tables, with inner
-- vertices numbered as their brackets close.
use Rattle.std.specs.Prelude.{Bool, true, false, List, ℕ, zero, suc, eqb, ltb, get_or, set}
use Rattle.newick_text.specs.Tree.{Tree, leaf, node, Row, none, some}

-- ---- from a table p of parents, where the vertices below n are leaves, `name` says their names and `long` the lengths
abbrev pub pick_tree : Bool → Tree → Tree → Tree
pick_tree true a b = a
pick_tree false a b = b

abbrev pub pick_row : Bool → Row → Row → Row
pick_row true a b = a
pick_row false a b = b

-- the children of v among the j vertices from w on, each with the tree that T gives it
unfoldable pub row_from : List ℕ → (ℕ → List ℕ) → ℕ → (ℕ → Tree) → ℕ → ℕ → Row
row_from p long v T w zero = none
row_from p long v T w (suc j) = pick_row (eqb (get_or p w 0) v) (some (T w) (long w) (row_from p long v T (suc w) j)) (row_from p long v T (suc w) j)

-- the tree of v, for a v below the bound; `Trees` shows that the bound does not matter
unfoldable pub tree_below : List ℕ → (ℕ → List ℕ) → (ℕ → List ℕ) → ℕ → ℕ → ℕ → Tree
tree_below p name long n zero v = leaf (name v)
tree_below p name long n (suc b) v = pick_tree (ltb v n) (leaf (name v)) (node (row_from p long v (tree_below p name long n b) 0 v))

-- the tree of v
unfoldable pub tree_of : List ℕ → (ℕ → List ℕ) → (ℕ → List ℕ) → ℕ → ℕ → Tree
tree_of p name long n v = tree_below p name long n (suc v) v

-- the children of v: all of them among the vertices below it
unfoldable pub children_of : List ℕ → (ℕ → List ℕ) → (ℕ → List ℕ) → ℕ → ℕ → Row
children_of p name long n v = row_from p long v (tree_of p name long n) 0 v

-- ---- from a tree, where k is the next number for an inner vertex and `find` the number of a name
-- the next number behind a vertex, and behind children
unfoldable mutual
  pub after : Tree → ℕ → ℕ
  after (leaf n) k = k
  after (node r) k = suc (row_after r k)

  pub row_after : Row → ℕ → ℕ
  row_after none k = k
  row_after (some t l r) k = row_after r (after t k)

-- the number of the vertex itself: a bracket gets the next one as it closes
unfoldable pub number_of : (List ℕ → ℕ) → Tree → ℕ → ℕ
number_of find (leaf n) k = find n
number_of find (node r) k = row_after r k

-- the table p with the entry `entry v l` of every vertex below this one, where v is its bracket's number and l its length; of children
-- whose bracket is v, and of all below them
unfoldable mutual
  pub filled : {A : Type 0} → (List ℕ → ℕ) → (ℕ → List ℕ → A) → Tree → ℕ → List A → List A
  filled find entry (leaf n) k p = p
  filled find entry (node r) k p = row_filled find entry r (row_after r k) k p

  pub row_filled : {A : Type 0} → (List ℕ → ℕ) → (ℕ → List ℕ → A) → Row → ℕ → ℕ → List A → List A
  row_filled find entry none v k p = p
  row_filled find entry (some t l r) v k p = set (row_filled find entry r v (after t k) (filled find entry t k p)) (number_of find t k) (entry v l)
