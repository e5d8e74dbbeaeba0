-- Reading takes what was written (RULES, Trees in text): where the thousandths of an allowed tree are in range, the row of its text passes every
-- test. A vertex has as many children as its bracket has vertices (`kids_are`), in the table that was written and in the one that is read.
use mathlib.Core.Path.{◌≡◌, refl, sym, ◌∙◌, ap}
use mathlib.Core.Bool.{Bool, true, false, cond, not}
use mathlib.Core.List.{List}
use Prim.Native.Nat.{ℕ, zero, suc, ◌+◌, ◌<◌, ◌≤◌}
use native.Mathlib.Decide.{dec_lt, ℕ_discrete}
use native.Mathlib.Omega.{arith}
use borrow.Author.Tests.{eq-eqb, ne_eqb, lt-leb}
use lib.Dec.{eqb, leb}
use lib.IntN.{ℤ, pos, nat_abs}
use lib.ListN.{length, get_or}
use Rattle.exact.specs.Table.{table, entry_of}
use Rattle.exact.proofs.Decide.{by_cases}
use Rattle.exact.proofs.Fill.{length-table, get_or_table_const}
use Rattle.verdict.specs.Answer.{pass}
use Rattle.verdict.specs.Table.{count}
use Rattle.verdict.proofs.Answers.{pass-test, pass_or_else, none_or}
use Rattle.verdict.proofs.Table.{count-zero, count-suc, some-no}
use Rattle.tree_theory.specs.Chain.{parent_of, kid}
use Rattle.tree_theory.specs.Allowed.{Allowed, children}
use Rattle.tree_theory.proofs.Checked.{→allowed}
use Rattle.lengths.specs.Limits.{max_numerator}
use Rattle.lengths.specs.Proper.{Proper}
use Rattle.lengths.proofs.Checked.{proper→}
use Rattle.newick_text.specs.Length.{value_of, length_text}
use Rattle.newick_text.specs.Tree.{Tree, node, Row, none, some, leaves_with}
use Rattle.newick_text.specs.Table.{pick_row, row_from, tree_of, children_of}
use Rattle.newick_text.specs.Tests.{thousand, edges_in, parents_in, numerators_in, names_wrong, row_tests}
use Rattle.newick_text.proofs.Filling.{filled-length}
use Rattle.newick_text.proofs.Lookup.{Found, missing, below, entry_in, look, filled-look}
use Rattle.newick_text.proofs.Trees.{leaf-is, node-is}
use Rattle.newick_text.proofs.Totals.{add_from, add, add_none, add-more}
use Rattle.newick_text.proofs.Planted.{tree-uses, tree-known}
use Rattle.newick_text.proofs.Back.{Brackets, RowBrackets}
use Rattle.newick_text.proofs.Risen.{parent_up}
use Rattle.newick_text.proofs.Round.{Plain, Holds, look-each, table-each, edges-again, row_read, bracket_read}

-- ---- how many vertices a bracket has
unfoldable pub row_length : Row → ℕ
row_length none = 0
row_length (some t l r) = suc (row_length r)

-- at least two
abbrev pub Two : Row → Type 0
Two r = 2 ≤ row_length r

count_add : (par : ℕ → ℕ) (v n : ℕ) → count n (kid par v) ≡ add n (λ i. cond (eqb (par i) v) 1 0)
count_add par v zero = count-zero (kid par v) ∙ sym (add_none (λ i. cond (eqb (par i) v) 1 0))
count_add par v (suc n) = omega (arith, count-suc n (kid par v), add-more (λ i. cond (eqb (par i) v) 1 0) n, count_add par v n)

-- nothing from v on
add_upto : (f : ℕ → ℕ) (v n : ℕ) → v ≤ n → ((i : ℕ) → v ≤ i → i < n → f i ≡ 0) → add n f ≡ add v f
add_upto f v zero l h = let e : zero ≡ v = omega arith in ap (λ (x : ℕ). add x f) e
add_upto f v (suc n) l h = by_cases (ℕ_discrete v (suc n))
    (λ e. ap (λ (x : ℕ). add x f) (sym e))
    (λ e. omega (arith, add-more f n, h n (omega arith) (omega arith), add_upto f v n (omega arith) (λ i a b. h i a (omega arith))))

row-kids : (q : List ℕ) (long : ℕ → List ℕ) (v : ℕ) (T : ℕ → Tree) (j w : ℕ) → row_length (row_from q long v T w j) ≡ add_from w j (λ i. cond (eqb (get_or q i 0) v) 1 0)
unfolding row_from row_length add_from
row-kids q long v T zero w = refl
row-kids q long v T (suc j) w = go (row-kids q long v T j (suc w)) (eqb (get_or q w 0) v)
  where
    go : row_length (row_from q long v T (suc w) j) ≡ add_from (suc w) j (λ i. cond (eqb (get_or q i 0) v) 1 0)
        → (c : Bool) → row_length (pick_row c (some (T w) (long w) (row_from q long v T (suc w) j)) (row_from q long v T (suc w) j)) ≡ cond c 1 0 + add_from (suc w) j (λ i. cond (eqb (get_or q i 0) v) 1 0)
    go ih true = omega (arith, ih)
    go ih false = omega (arith, ih)

-- where parents are greater than children, the children of v are the vertices of its bracket
module _ (q : List ℕ) (name long : ℕ → List ℕ) (n K : ℕ) (up : (i : ℕ) → i < K → i < get_or q i 0) where
  pub kids_are : (v : ℕ) → v ≤ K → children K (parent_of q) v ≡ row_length (children_of q name long n v)
  unfolding children_of
  kids_are v h =
      count_add (parent_of q) v K
      ∙ add_upto (λ i. cond (eqb (get_or q i 0) v) 1 0) v K h (λ i a b. let e : eqb (get_or q i 0) v ≡ false = ne_eqb (get_or q i 0) v (λ z. omega (arith, z, up i b)) in rw e)
      ∙ sym (row-kids q long v (tree_of q name long n) v 0)

-- ---- every bracket of an allowed table's tree has two vertices
module _ (p : List ℕ) (name long : ℕ → List ℕ) (n K : ℕ) (ok : Allowed n K (parent_of p)) where
  abbrev tree : ℕ → Tree
  tree v = tree_of p name long n v

  own-two : (v : ℕ) → n ≤ v → v ≤ K → Two (children_of p name long n v)
  own-two v h k =
      let kids = kids_are p name long n K (λ i l. ok.up i l) v k in
      by_cases (ℕ_discrete v K) (λ e. omega (arith, kids, ap (children K (parent_of p)) e, ok.root)) (λ e. omega (arith, kids, ok.two v h (omega arith)))

  row_brackets_lem : (v : ℕ) → ((w : ℕ) → w < v → Brackets Two (tree w)) → (j w : ℕ) → w + j ≤ v → RowBrackets Two (row_from p long v tree w j)
  unfolding row_from Brackets
  row_brackets_lem v inner zero w h = tt
  row_brackets_lem v inner (suc j) w h = go (row_brackets_lem v inner j (suc w) (omega arith)) (eqb (get_or p w 0) v)
    where
      go : RowBrackets Two (row_from p long v tree (suc w) j) → (c : Bool) → RowBrackets Two (pick_row c (some (tree w) (long w) (row_from p long v tree (suc w) j)) (row_from p long v tree (suc w) j))
      go ih true = (inner w (omega arith), ih)
      go ih false = ih

  in_row : (v : ℕ) → ((w : ℕ) → w < v → Brackets Two (tree w)) → RowBrackets Two (children_of p name long n v)
  unfolding children_of
  in_row v inner = row_brackets_lem v inner v 0 (omega arith)

  all_brackets : (b v : ℕ) → v < b → v ≤ K → Brackets Two (tree v)
  unfolding Brackets
  all_brackets zero v l k = absurd (omega arith)
  all_brackets (suc b) v l k =
      let inner : (w : ℕ) → w < v → Brackets Two (tree w) = λ w m. all_brackets b w (omega arith) (omega arith) in
      by_cases (dec_lt v n)
      (λ a. rw (leaf-is p name long n v a) tt)
      (λ a. rw (node-is p name long n v (omega arith)) (own-two v (omega arith) k, in_row v inner))

  pub root_brackets : Brackets Two (node (children_of p name long n K))
  root_brackets = rw (node-is p name long n K (omega (arith, ok.edges))) at (all_brackets (suc K) K (omega arith) (omega arith))

-- ---- a numerator that is read is 0, or the thousandths of a length that was written
near-entry : (d : ℤ) (x : Found) → nat_abs d ≤ max_numerator → Holds (λ l. nat_abs (value_of l) ≤ max_numerator) x → nat_abs (entry_in (λ v l. value_of l) x d) ≤ max_numerator
near-entry d missing h e = h
near-entry d (below v l) h e = e

module _ (p : List ℕ) (name long : ℕ → List ℕ) (n K : ℕ) (ok : Allowed n K (parent_of p)) (find : List ℕ → ℕ) (finds : (i : ℕ) → i < n → find (name i) ≡ i)
    (near : (i : ℕ) → i < K → nat_abs (value_of (long i)) ≤ max_numerator) where
  values-near : (v : ℕ) → v < edges_in find n (children_of p name long n K) → nat_abs (get_or (numerators_in find n (children_of p name long n K)) v (pos 0)) ≤ max_numerator
  values-near v h =
      let zeros = table (edges_in find n (children_of p name long n K)) (λ _. pos 0) in
      let all = rw (node-is p name long n K (omega (arith, ok.edges))) at (table-each p name long n K ok find finds (λ l. nat_abs (value_of l) ≤ max_numerator) near (suc K) K (omega arith) (omega arith)) in
      rw (filled-look find (λ v l. value_of l) (node (children_of p name long n K)) n zeros v (pos 0) (omega (arith, length-table {A = ℤ} (edges_in find n (children_of p name long n K)) (λ _. pos 0))))
      (near-entry (get_or zeros v (pos 0)) (look find (node (children_of p name long n K)) n v) (rw (get_or_table_const (edges_in find n (children_of p name long n K)) (pos 0) v) (omega arith)) (look-each (λ l. nat_abs (value_of l) ≤ max_numerator) find (node (children_of p name long n K)) n v all))

-- ---- what is read of a row: a tree that is allowed
module _ (p : List ℕ) (name : ℕ → List ℕ) (long : ℕ → List ℕ) (n K : ℕ) (ok : Allowed n K (parent_of p)) (find : List ℕ → ℕ) (finds : (i : ℕ) → i < n → find (name i) ≡ i)
    (knows : (l : List ℕ) → find l < n → name (find l) ≡ l) (plain : (i : ℕ) → i < K → Plain (long i)) where
  abbrev row : Row
  row = children_of p name long n K

  abbrev q : List ℕ
  q = parents_in find n row

  abbrev wrote : ℕ → List ℕ
  wrote u = length_text (entry_of (numerators_in find n row) u)

  root_is : tree_of p name long n K ≡ node row
  root_is = node-is p name long n K (omega (arith, ok.edges))

  known : leaves_with (λ l. leb n (find l)) (node row) ≡ 0
  known = rw root_is at (tree-known p name long n K ok find finds)

  once : (u : ℕ) → u < n → leaves_with (λ l. eqb (find l) u) (node row) ≡ 1
  once u h = rw root_is at (tree-uses p name long n K ok find finds u h)

  edges : edges_in find n row ≡ K
  edges = edges-again p name long n K ok find finds knows plain

  size : length q ≡ K
  size = filled-length find (λ v l. v) (node row) n (table (edges_in find n row) (λ _. 0)) ∙ length-table {A = ℕ} (edges_in find n row) (λ _. 0) ∙ edges

  rises : (u : ℕ) → u < K → (u < get_or q u 0) × (n ≤ get_or q u 0) × (get_or q u 0 ≤ edges_in find n row)
  rises u h = parent_up find n row known (λ i l. omega (arith, once i l)) u (omega (arith, edges))

  -- each inner vertex has as many children as its bracket has vertices
  two : (v : ℕ) → n ≤ v → v < K → 2 ≤ children K (parent_of q) v
  two v h l =
      let b = bracket_read p name long n K ok find finds knows plain Two (root_brackets p name long n K ok) v h (omega arith) in
      let same : children_of q name wrote n v ≡ b.children = let e : node (children_of q name wrote n v) ≡ node b.children = sym (node-is q name wrote n v h) ∙ b.is in cc in
      omega (arith, kids_are q name wrote n K (λ i m. (rises i m).0) v (omega arith), ap row_length same, b.has)

  three : 3 ≤ children K (parent_of q) K
  three =
      let same : children_of q name wrote n K ≡ row = ap (children_of q name wrote n) (sym edges) ∙ row_read p name long n K ok find finds knows plain in
      omega (arith, kids_are q name wrote n K (λ i m. (rises i m).0) K (omega arith), ap row_length same, kids_are p name long n K (λ i l. ok.up i l) K (omega arith), ok.root)

  read-allowed : Allowed n (length q) (parent_of q)
  read-allowed = rw size (record {
    three = ok.three;
    few = ok.few;
    edges = ok.edges;
    most = ok.most;
    up = λ v h. (rises v h).0;
    inner = λ v h. (rises v h).1;
    top = λ v h. omega (arith, (rises v h).2, edges);
    root = three;
    two = two;
  })

  -- names, tree and lengths pass
  names-right : names_wrong find n row ≡ false
  names-right = none_or (lt-leb 1 (leaves_with (λ l. leb n (find l)) (node row)) (omega (arith, known))) (some-no n (λ i. not (eqb (leaves_with (λ l. eqb (find l) i) (node row)) 1)) (λ i h. ap not (eq-eqb (leaves_with (λ l. eqb (find l) i) (node row)) 1 (once i h))))

  module _ (near : (i : ℕ) → i < K → nat_abs (value_of (long i)) ≤ max_numerator) where
    read-proper : Proper (edges_in find n row) thousand (numerators_in find n row)
    read-proper = record {
      whole = long_as;
      few = omega (arith, edges, ok.most, ok.few);
      one = omega arith;
      most = omega arith;
      near = λ v h. values-near p name long n K ok find finds near v (omega (arith, long_as));
    }
      where
        long_as : length (numerators_in find n row) ≡ edges_in find n row
        long_as = filled-length find (λ v l. value_of l) (node row) n (table (edges_in find n row) (λ _. pos 0)) ∙ length-table {A = ℤ} (edges_in find n row) (λ _. pos 0)

    pub row-passes : row_tests find n row ≡ pass
    row-passes = pass_or_else (pass-test 29 names-right) (pass_or_else (→allowed n q read-allowed) (proper→ (edges_in find n row) thousand (numerators_in find n row) read-proper))
