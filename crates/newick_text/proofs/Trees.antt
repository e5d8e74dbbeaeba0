-- The tree of a table, unfolded once: the bound by which `tree_below` recurses does not matter. Nothing later looks at it.
use mathlib.Core.Path.{◌≡◌, refl, sym, ◌∙◌, ap, ap₂}
use mathlib.Core.List.{List}
use Prim.Native.Nat.{ℕ, zero, suc, ◌+◌, ◌-◌, ◌<◌, ◌≤◌}
use native.Mathlib.Decide.{dec_lt}
use native.Mathlib.Numerals.{add-one}
use native.Mathlib.Omega.{arith}
use borrow.Author.Tests.{lt-ltb, le-ltb, eq-eqb, ne_eqb}
use lib.Dec.{eqb, ltb}
use lib.ListN.{get_or}
use Rattle.exact.proofs.Decide.{by_cases}
use Rattle.newick_text.specs.Tree.{Tree, leaf, node, Row, none, some}
use Rattle.newick_text.specs.Table.{pick_tree, pick_row, row_from, tree_below, tree_of, children_of}

module _ (p : List ℕ) (long : ℕ → List ℕ) (v : ℕ) where
  -- children whose trees are the same
  row_same : (T U : ℕ → Tree) (w j : ℕ) → ((u : ℕ) → u < w + j → T u ≡ U u) → row_from p long v T w j ≡ row_from p long v U w j
  unfolding row_from
  row_same T U w zero h = refl
  row_same T U w (suc j) h =
      let rest = row_same T U (suc w) j (λ u l. h u (omega arith)) in
      ap₂ (pick_row (eqb (get_or p w 0) v)) (ap₂ (λ (t : Tree) (r : Row). some t (long w) r) (h w (omega arith)) rest) rest

  -- the children from w on: none left, a child, no child
  pub row-none : (T : ℕ → Tree) (w : ℕ) → v ≤ w → row_from p long v T w (v - w) ≡ none
  unfolding row_from
  row-none T w l = ap (row_from p long v T w) none_left
    where
      none_left : v - w ≡ 0
      none_left = omega arith

  one_less : (w : ℕ) → w < v → v - w ≡ suc (v - (w + 1))
  one_less w l = omega arith

  row_step : (T : ℕ → Tree) (w : ℕ) → w < v
      → row_from p long v T w (v - w) ≡ pick_row (eqb (get_or p w 0) v) (some (T w) (long w) (row_from p long v T (w + 1) (v - (w + 1)))) (row_from p long v T (w + 1) (v - (w + 1)))
  unfolding row_from
  row_step T w l = ap (row_from p long v T w) (one_less w l) ∙ rw (add-one w)

  pub row-child : (T : ℕ → Tree) (w : ℕ) → w < v → get_or p w 0 ≡ v → row_from p long v T w (v - w) ≡ some (T w) (long w) (row_from p long v T (w + 1) (v - (w + 1)))
  row-child T w l e = row_step T w l ∙ simp (eq-eqb (get_or p w 0) v e)

  pub row_skip : (T : ℕ → Tree) (w : ℕ) → w < v → (get_or p w 0 ≡ v → ⊥) → row_from p long v T w (v - w) ≡ row_from p long v T (w + 1) (v - (w + 1))
  row_skip T w l e = row_step T w l ∙ simp (ne_eqb (get_or p w 0) v e)

module _ (p : List ℕ) (name long : ℕ → List ℕ) (n : ℕ) where
  abbrev below : ℕ → ℕ → Tree
  below b v = tree_below p name long n b v

  below-same : (b c v : ℕ) → v < b → v < c → below b v ≡ below c v
  unfolding tree_below
  below-same zero c v h k = absurd (omega arith)
  below-same (suc b) zero v h k = absurd (omega arith)
  below-same (suc b) (suc c) v h k =
      ap (λ (r : Row). pick_tree (ltb v n) (leaf (name v)) (node r)) (row_same p long v (below b) (below c) 0 v (λ u l. below-same b c u (omega arith) (omega arith)))

  tree_is : (v : ℕ) → tree_of p name long n v ≡ pick_tree (ltb v n) (leaf (name v)) (node (children_of p name long n v))
  unfolding tree_of tree_below children_of
  tree_is v = ap (λ (r : Row). pick_tree (ltb v n) (leaf (name v)) (node r)) (row_same p long v (below v) (λ u. below (suc u) u) 0 v (λ u l. below-same v (suc u) u (omega arith) (omega arith)))

  -- below n a leaf, from n on a bracket
  pub leaf-is : (v : ℕ) → v < n → tree_of p name long n v ≡ leaf (name v)
  leaf-is v h = tree_is v ∙ simp (lt-ltb v n h)

  pub node-is : (v : ℕ) → n ≤ v → tree_of p name long n v ≡ node (children_of p name long n v)
  node-is v h = tree_is v ∙ simp (le-ltb v n h)

  -- the children, from the first vertex on
  pub children_are : (v : ℕ) → children_of p name long n v ≡ row_from p long v (tree_of p name long n) 0 (v - 0)
  unfolding children_of
  children_are v = ap (row_from p long v (tree_of p name long n) 0) same
    where
      same : v ≡ v - 0
      same = omega arith

-- ---- a tree takes the names of its strains and the lengths of its edges, and nothing else of the two
module _ (p : List ℕ) (name other long longer : ℕ → List ℕ) (n K : ℕ) (named : (i : ℕ) → i < n → name i ≡ other i) (measured : (i : ℕ) → i < K → long i ≡ longer i) where
  row_cong : (v : ℕ) (T U : ℕ → Tree) (j w : ℕ) → w + j ≤ K → ((u : ℕ) → u < w + j → T u ≡ U u) → row_from p long v T w j ≡ row_from p longer v U w j
  unfolding row_from
  row_cong v T U zero w k h = refl
  row_cong v T U (suc j) w k h =
      let rest = row_cong v T U j (suc w) (omega arith) (λ u l. h u (omega arith)) in
      let tree = h w (omega arith) in
      let edge = measured w (omega arith) in
      ap₂ (pick_row (eqb (get_or p w 0) v)) (cc) rest

  tree_cong : (b v : ℕ) → v < b → v ≤ K → tree_of p name long n v ≡ tree_of p other longer n v
  unfolding children_of
  tree_cong zero v l k = absurd (omega arith)
  tree_cong (suc b) v l k =
      let inner : (u : ℕ) → u < 0 + v → tree_of p name long n u ≡ tree_of p other longer n u = λ u m. tree_cong b u (omega arith) (omega arith) in
      by_cases (dec_lt v n)
      (λ h. leaf-is p name long n v h ∙ ap leaf (named v h) ∙ sym (leaf-is p other longer n v h))
      (λ h. node-is p name long n v (omega arith) ∙ ap node (row_cong v (tree_of p name long n) (tree_of p other longer n) v 0 (omega arith) inner) ∙ sym (node-is p other longer n v (omega arith)))

  pub children_cong : children_of p name long n K ≡ children_of p other longer n K
  unfolding children_of
  children_cong = row_cong K (tree_of p name long n) (tree_of p other longer n) K 0 (omega arith) (λ u m. tree_cong (suc u) u (omega arith) (omega arith))

  pub root_cong : tree_of p name long n K ≡ tree_of p other longer n K
  root_cong = tree_cong (suc K) K (omega arith) (omega arith)
