-- There and back (RULES, Trees in text): the tree of an allowed table, read back into tables, is the same tree with the same thousandths, so
-- it is written as the same text.
use mathlib.Core.Path.{◌≡◌, refl, ◌∙◌, ap}
use mathlib.Core.Bool.{Bool, true, false}
use mathlib.Core.List.{List}
use mathlib.Core.Logic.{◌⊎◌, inl, inr, ⊎_elim}
use Prim.Native.Nat.{ℕ, zero, suc, ◌+◌, ◌<◌, ◌≤◌}
use native.Mathlib.Nat.{le_refl}
use native.Mathlib.Omega.{arith}
use lib.Dec.{eqb}
use lib.IntN.{ℤ, pos}
use lib.ListN.{get_or}
use Rattle.exact.specs.Table.{table, entry_of}
use Rattle.exact.proofs.Fill.{length-table, get_or_table_const}
use Rattle.tree_theory.specs.Chain.{parent_of}
use Rattle.tree_theory.specs.Allowed.{Allowed}
use Rattle.newick_text.specs.Length.{value_of, length_text}
use borrow.Author.Tests.{ne_eqb}
use Rattle.newick_text.specs.Tree.{Tree, leaf, node, Row, none, some, tally}
use Rattle.newick_text.specs.Table.{pick_row, row_from, tree_of, children_of, after, row_after, number_of}
use Rattle.newick_text.specs.Tests.{edges_in, parents_in, numerators_in}
use Rattle.newick_text.proofs.Trees.{leaf-is, node-is}
use Rattle.newick_text.proofs.Lookup.{Found, missing, below, first, where_same, bracket_in, entry_in, look, row_look, row_up, filled-look}
use Rattle.newick_text.proofs.Once.{Ordered, RowOrdered, uses, row_uses, lt_or}
use Rattle.newick_text.proofs.Planted.{tree-uses, root-number}
use Rattle.newick_text.proofs.Back.{Brackets, Bracket, row-again, brackets_again}

-- ---- every length of a tree
unfoldable mutual
  pub Each : (List ℕ → Type 0) → Tree → Type 0
  Each P (leaf n) = Unit
  Each P (node r) = RowEach P r

  pub RowEach : (List ℕ → Type 0) → Row → Type 0
  RowEach P none = Unit
  RowEach P (some t l r) = Each P t × P l × RowEach P r

-- what is found of it
abbrev pub Holds : (List ℕ → Type 0) → Found → Type 0
Holds P missing = Unit
Holds P (below v l) = P l

first_holds : (P : List ℕ → Type 0) (a b : Found) → Holds P a → Holds P b → Holds P (first a b)
first_holds P missing b x y = y
first_holds P (below v l) b x y = x

where_holds : (P : List ℕ → Type 0) (c : Bool) (v : ℕ) (l : List ℕ) → P l → Holds P (where_same c (below v l))
where_holds P true v l h = h
where_holds P false v l h = tt

module _ (P : List ℕ → Type 0) (find : List ℕ → ℕ) where
  mutual
    unfolding Each look

    pub look-each : (t : Tree) (k u : ℕ) → Each P t → Holds P (look find t k u)
    look-each (leaf n) k u h = tt
    look-each (node r) k u h = row-each r (row_after r k) k u h

    row-each : (r : Row) (v k u : ℕ) → RowEach P r → Holds P (row_look find r v k u)
    row-each none v k u h = tt
    row-each (some t l r) v k u h =
        first_holds P (where_same (eqb u (number_of find t k)) (below v l)) (first (row_look find r v (after t k) u) (look find t k u)) (where_holds P (eqb u (number_of find t k)) v l h.1)
        (first_holds P (row_look find r v (after t k) u) (look find t k u) (row-each r v (after t k) u h.2) (look-each t k u h.0))

-- a length that is written as it stands
abbrev pub Plain : List ℕ → Type 0
Plain l = length_text (value_of l) ≡ l

entry_bracket : (x : Found) → entry_in (λ v l. v) x 0 ≡ bracket_in x
entry_bracket missing = refl
entry_bracket (below v l) = refl

-- no leaf has a number from n on
module _ (find : List ℕ → ℕ) (n u : ℕ) (high : n ≤ u) where
  mutual
    unfolding Ordered tally

    unused : (t : Tree) (k : ℕ) → Ordered find n t k → uses find n t u ≡ 0
    unused (leaf l) k o = simp (ne_eqb (find l) u (λ e. omega (arith, o)))
    unused (node r) k o = omega (arith, row-unused r k 0 o)

    row-unused : (r : Row) (k w : ℕ) → RowOrdered find n r k w → row_uses find n r u ≡ 0
    row-unused none k w o = refl
    row-unused (some t l r) k w o = omega (arith, unused t k o.1, row-unused r (after t k) (suc (number_of find t k)) o.2)

-- ---- a row whose strains all stand once, whose children rise and whose lengths are plain: the tree of its tables is that row
module _ (find : List ℕ → ℕ) (name : ℕ → List ℕ) (n : ℕ) (some-leaf : 0 < n) (knows : (l : List ℕ) → find l < n → name (find l) ≡ l)
    (r : Row) (o : Ordered find n (node r) n) (once : (u : ℕ) → u < n → uses find n (node r) u ≡ 1) (plain : RowEach Plain r) where
  pub few : (u : ℕ) → uses find n (node r) u ≤ 1
  few u = ⊎_elim (λ h. omega (arith, once u h)) (λ h. omega (arith, unused find n u h (node r) n o)) (lt_or u n)

  pub parent_is : (u : ℕ) → u < edges_in find n r → get_or (parents_in find n r) u 0 ≡ bracket_in (look find (node r) n u)
  parent_is u h =
      filled-look find (λ v l. v) (node r) n (table (edges_in find n r) (λ _. 0)) u 0 (omega (arith, length-table {A = ℕ} (edges_in find n r) (λ _. 0)))
      ∙ ap (entry_in (λ v l. v) (look find (node r) n u)) (get_or_table_const (edges_in find n r) 0 u) ∙ entry_bracket (look find (node r) n u)

  pub length-is : (u v : ℕ) (l : List ℕ) → u < edges_in find n r → look find (node r) n u ≡ below v l → length_text (entry_of (numerators_in find n r) u) ≡ l
  unfolding Each
  length-is u v l h e =
      let value : entry_of (numerators_in find n r) u ≡ value_of l
      = filled-look find (λ v l. value_of l) (node r) n (table (edges_in find n r) (λ _. pos 0)) u (pos 0) (omega (arith, length-table {A = ℤ} (edges_in find n r) (λ _. pos 0)))
      ∙ ap (λ (x : Found). entry_in (λ v l. value_of l) x (get_or (table (edges_in find n r) (λ _. pos 0)) u (pos 0))) e in
      ap length_text value ∙ (rw e at (look-each Plain find (node r) n u plain))

  pub tables-row : children_of (parents_in find n r) name (λ u. length_text (entry_of (numerators_in find n r) u)) n (edges_in find n r) ≡ r
  tables-row =
      row-again find name n some-leaf knows r o few (λ u h. omega (arith, once u h))
      (parents_in find n r) (λ u. length_text (entry_of (numerators_in find n r) u)) parent_is length-is

  -- and the tree of each inner vertex is a bracket of the row
  pub tables_bracket : (P : Row → Type 0) → Brackets P (node r) → (v : ℕ) → n ≤ v → v ≤ edges_in find n r
      → Bracket P (tree_of (parents_in find n r) name (λ u. length_text (entry_of (numerators_in find n r) u)) n v)
  tables_bracket P b v lo hi =
      brackets_again find name n some-leaf knows r o few (λ u h. omega (arith, once u h)) P
      (parents_in find n r) (λ u. length_text (entry_of (numerators_in find n r) u)) parent_is length-is b v lo hi

-- ---- the tree of an allowed table is such a row
module _ (p : List ℕ) (name : ℕ → List ℕ) (long : ℕ → List ℕ) (n K : ℕ) (ok : Allowed n K (parent_of p)) (find : List ℕ → ℕ) (finds : (i : ℕ) → i < n → find (name i) ≡ i) where
  abbrev tree : ℕ → Tree
  tree v = tree_of p name long n v

  -- children rise: strains first, by their numbers, then brackets, as they close
  leaf-number : (w k : ℕ) → w < n → (number_of find (tree w) k ≡ w) × (after (tree w) k ≡ k)
  unfolding number_of after
  leaf-number w k h = simp (leaf-is p name long n w h) (finds w h, refl)

  node-number : (w k : ℕ) → n ≤ w → (k ≤ number_of find (tree w) k) × (after (tree w) k ≡ suc (number_of find (tree w) k))
  unfolding number_of after
  node-number w k h = rw (node-is p name long n w h) (row_up (children_of p name long n w) k, refl)

  row-ordered : (v : ℕ) → ((w k : ℕ) → w < v → n ≤ k → Ordered find n (tree w) k)
      → (j w k x : ℕ) → w + j ≡ v → n ≤ k → ((x ≤ w) × (x ≤ n)) ⊎ ((x ≤ k) × (n ≤ w)) → RowOrdered find n (row_from p long v tree w j) k x
  unfolding row_from RowOrdered
  row-ordered v o zero w k x s h i = tt
  row-ordered v o (suc j) w k x s h i = go (λ l y g z. row-ordered v o j (suc w) l y (omega arith) g z) (eqb (get_or p w 0) v) (lt_or w n) i
    where
      go : ((l y : ℕ) → n ≤ l → ((y ≤ suc w) × (y ≤ n)) ⊎ ((y ≤ l) × (n ≤ suc w)) → RowOrdered find n (row_from p long v tree (suc w) j) l y)
          → (b : Bool) → (w < n) ⊎ (n ≤ w) → ((x ≤ w) × (x ≤ n)) ⊎ ((x ≤ k) × (n ≤ w)) → RowOrdered find n (pick_row b (some (tree w) (long w) (row_from p long v tree (suc w) j)) (row_from p long v tree (suc w) j)) k x
      go ih false q (inl z) = ih k x h (inl (omega (arith, z.0), z.1))
      go ih false q (inr z) = ih k x h (inr (z.0, omega (arith, z.1)))
      go ih true (inl a) (inr z) = absurd (omega (arith, a, z.1))
      go ih true (inl a) (inl z) =
          let e = leaf-number w k a in
          (omega (arith, e.0, z.0), o w k (omega arith) h, ih (after (tree w) k) (suc (number_of find (tree w) k)) (omega (arith, e.1)) (inl (omega (arith, e.0), omega (arith, e.0, a))))
      go ih true (inr a) z =
          let e = node-number w k a in
          let low : x ≤ k = ⊎_elim (λ y. omega (arith, y.1, h)) (λ y. y.0) z in
          (omega (arith, e.0, low), o w k (omega arith) h, ih (after (tree w) k) (suc (number_of find (tree w) k)) (omega (arith, e.0, e.1)) (inr (omega (arith, e.1), omega (arith, a))))

  ordered : (b v k : ℕ) → v < b → n ≤ k → Ordered find n (tree v) k
  unfolding Ordered children_of
  ordered zero v k l h = absurd (omega arith)
  ordered (suc b) v k l h = go (λ w m a g. ordered b w m a g) (lt_or v n)
    where
      go : ((w m : ℕ) → w < b → n ≤ m → Ordered find n (tree w) m) → (v < n) ⊎ (n ≤ v) → Ordered find n (tree v) k
      go ih (inl a) = rw (leaf-is p name long n v a) (omega (arith, finds v a))
      go ih (inr a) = rw (node-is p name long n v a) (row-ordered v (λ w m c g. ih w m (omega arith) g) v 0 k 0 (omega arith) h (inl (omega arith, omega arith)))

  -- every length is plain where those of the table are
  module _ (P : List ℕ → Type 0) (each : (i : ℕ) → i < K → P (long i)) where
    table-row : (v : ℕ) → v ≤ K → ((w : ℕ) → w < v → Each P (tree w)) → (j w : ℕ) → w + j ≤ v → RowEach P (row_from p long v tree w j)
    unfolding row_from Each
    table-row v k inner zero w h = tt
    table-row v k inner (suc j) w h = go (table-row v k inner j (suc w) (omega arith)) (eqb (get_or p w 0) v)
      where
        go : RowEach P (row_from p long v tree (suc w) j) → (c : Bool) → RowEach P (pick_row c (some (tree w) (long w) (row_from p long v tree (suc w) j)) (row_from p long v tree (suc w) j))
        go ih true = (inner w (omega arith), each w (omega arith), ih)
        go ih false = ih

    pub table-each : (b v : ℕ) → v < b → v ≤ K → Each P (tree v)
    unfolding Each children_of
    table-each zero v l k = absurd (omega arith)
    table-each (suc b) v l k =
        let inner : (w : ℕ) → w < v → Each P (tree w) = λ w m. table-each b w (omega arith) (omega arith) in
        ⊎_elim (λ a. rw (leaf-is p name long n v a) tt) (λ a. rw (node-is p name long n v a) (table-row v k inner v 0 (omega arith))) (lt_or v n)

  abbrev row : Row
  row = children_of p name long n K

  -- ---- the round trip
  module _ (knows : (l : List ℕ) → find l < n → name (find l) ≡ l) (plain : (i : ℕ) → i < K → Plain (long i)) where
    -- the tables of the text have as many edges, and their tree is the tree that was written
    pub edges-again : edges_in find n row ≡ K
    edges-again = root-number p name long n K ok

    pub row_read : children_of (parents_in find n row) name (λ u. length_text (entry_of (numerators_in find n row) u)) n (edges_in find n row) ≡ row
    unfolding Each
    row_read =
        let root = node-is p name long n K (omega (arith, ok.edges)) in
        tables-row find name n (omega (arith, ok.three)) knows row
        (rw root at (ordered (suc K) K n (omega arith) (le_refl n)))
        (λ u h. rw root at (tree-uses p name long n K ok find finds u h))
        (rw root at (table-each Plain plain (suc K) K (omega arith) (omega arith)))

    pub bracket_read : (P : Row → Type 0) → Brackets P (node row) → (v : ℕ) → n ≤ v → v ≤ K
        → Bracket P (tree_of (parents_in find n row) name (λ u. length_text (entry_of (numerators_in find n row) u)) n v)
    unfolding Each
    bracket_read P b v lo hi =
        let root = node-is p name long n K (omega (arith, ok.edges)) in
        tables_bracket find name n (omega (arith, ok.three)) knows row
        (rw root at (ordered (suc K) K n (omega arith) (le_refl n)))
        (λ u h. rw root at (tree-uses p name long n K ok find finds u h))
        (rw root at (table-each Plain plain (suc K) K (omega arith) (omega arith)))
        P b v lo (omega (arith, edges-again))
