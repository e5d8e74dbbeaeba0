-- The tree of an allowed table: how many bytes its text has at most, that it is of the form, how many brackets it has, and that every
-- strain is a leaf once.
use mathlib.Core.Path.{◌≡◌, refl, sym, ◌∙◌, ap}
use mathlib.Core.Bool.{Bool, true, false, cond}
use mathlib.Core.List.{List}
use Prim.Native.Nat.{ℕ, zero, suc, ◌+◌, ◌-◌, ◌*◌, ◌<◌, ◌≤◌}
use native.Mathlib.Decide.{dec_lt, ℕ_discrete}
use native.Mathlib.Omega.{arith}
use borrow.Author.Tests.{lt-ltb, le-ltb, eq-eqb, ne_eqb, lt-leb}
use lib.Dec.{eqb, ltb, leb}
use lib.ListN.{length, get_or}
use Rattle.exact.proofs.Decide.{by_cases}
use Rattle.verdict.specs.Table.{count}
use Rattle.verdict.proofs.Table.{count-zero, count-suc}
use Rattle.names.specs.Name.{is_name}
use Rattle.tree_theory.specs.Chain.{parent_of, kid}
use Rattle.tree_theory.specs.Allowed.{Allowed, children}
use Rattle.newick_text.specs.Length.{is_length}
use Rattle.newick_text.specs.Tree.{Tree, node, Row, none, some, Some, tally, size_of, brackets_of, leaves_with, Formed, RowFormed, max_open}
use Rattle.newick_text.specs.Table.{pick_row, row_from, tree_of, children_of, row_after}
use Rattle.newick_text.proofs.Counting.{rows-number}
use Rattle.newick_text.proofs.Trees.{leaf-is, node-is}
use Rattle.newick_text.proofs.Totals.{add, add_none, add-more, add_most, total}

-- ---- sums of ones
module _ (f : ℕ → ℕ) where
  -- none below j
  add-zeros : (j : ℕ) → ((i : ℕ) → i < j → f i ≡ 0) → add j f ≡ 0
  add-zeros j h = omega (arith, add_most f 0 j 0 (λ i _ l. omega (arith, h i (omega arith))))

  -- one at u, zeros elsewhere
  pub add_single : (j u : ℕ) → u < j → f u ≡ 1 → ((i : ℕ) → i < j → (i ≡ u → ⊥) → f i ≡ 0) → add j f ≡ 1
  add_single zero u l e h = absurd (omega arith)
  add_single (suc j) u l e h = by_cases (ℕ_discrete u j)
      (λ q. let z = add-zeros j (λ i g. h i (omega arith) (λ s. omega arith)) in omega (arith, add-more f j, z, ap f q, e))
      (λ q. let ih = add_single j u (omega arith) e (λ i g s. h i (omega arith) s) in omega (arith, add-more f j, ih, h j (omega arith) (λ s. q (sym s))))

-- zeros below n, ones from there on
module _ (n : ℕ) (f : ℕ → ℕ) (low : (i : ℕ) → i < n → f i ≡ 0) (high : (i : ℕ) → n ≤ i → f i ≡ 1) where
  add-ones : (j : ℕ) → n ≤ j → n + add j f ≡ j
  add-ones zero h = omega (arith, add_none f)
  add-ones (suc j) h = by_cases (dec_lt j n)
      (λ l. omega (arith, add-zeros f (suc j) (λ i g. low i (omega arith))))
      (λ l. omega (arith, add-ones j (omega arith), add-more f j, high j (omega arith)))

count_none : (n : ℕ) (q : ℕ → Bool) → ((i : ℕ) → i < n → q i ≡ false) → count n q ≡ 0
count_none zero q h = count-zero q
count_none (suc n) q h =
    let last : cond {A = ℕ} (q n) 1 0 ≡ 0 = rw (h n (omega arith)) in
    omega (arith, count-suc n q, count_none n q (λ i l. h i (omega arith)), last)

-- where a scan finds no child there is none
no-child : (p : List ℕ) (long : ℕ → List ℕ) (v : ℕ) (T : ℕ → Tree) (j w : ℕ) → row_from p long v T w j ≡ none → (i : ℕ) → w ≤ i → i < w + j → get_or p i 0 ≡ v → ⊥
unfolding row_from
no-child p long v T zero w e i l h q = omega arith
no-child p long v T (suc j) w e i l h q = by_cases (ℕ_discrete i w)
    (λ s. let yes : eqb (get_or p w 0) v ≡ true = eq-eqb (get_or p w 0) v (ap (λ (x : ℕ). get_or p x 0) (sym s) ∙ q) in
    let clash : some (T w) (long w) (row_from p long v T (suc w) j) ≡ none = rw yes at e in
    let z : ◌≡◌ {A = ℕ} 0 1 = cc in omega arith)
    (λ s. by_cases (ℕ_discrete (get_or p w 0) v)
    (λ y. let yes : eqb (get_or p w 0) v ≡ true = eq-eqb (get_or p w 0) v y in
    let clash : some (T w) (long w) (row_from p long v T (suc w) j) ≡ none = rw yes at e in
    let z : ◌≡◌ {A = ℕ} 0 1 = cc in omega arith)
    (λ y. no-child p long v T j (suc w) (rw (ne_eqb (get_or p w 0) v y) at e) i (omega arith) (omega arith) q))

module _ (p : List ℕ) (name long : ℕ → List ℕ) (n K : ℕ) (ok : Allowed n K (parent_of p)) where
  abbrev tree : ℕ → Tree
  tree v = tree_of p name long n v

  -- ---- the text has at most so many bytes
  module _ (x y : ℕ) (one : 1 ≤ x) (short : (i : ℕ) → i < n → length (name i) ≤ x) (low : (i : ℕ) → i < K → length (long i) ≤ y) where
    each : (v : ℕ) → cond (ltb v n) (length (name v)) 1 ≤ x
    each v = by_cases (dec_lt v n) (λ h. rw (lt-ltb v n h) (short v h)) (λ h. rw (le-ltb v n (omega arith)) one)

    pub tree-size : size_of (tree K) ≤ x + (x + 2 + y) * K
    tree-size =
        let all = add_most (λ i. cond (ltb i n) (length (name i)) 1 + (2 + length (long i))) (x + 2 + y) K 0 (λ i _ h. omega (arith, each i, low i (omega arith))) in
        omega (arith, total length (λ l. 2 + length l) 1 p name long n K ok, each K, all)

  -- ---- as many brackets as inner vertices: so the root has the number K
  pub tree_brackets : n + brackets_of (tree K) ≡ K + 1
  tree_brackets =
      let own : cond {A = ℕ} (ltb K n) 0 1 ≡ 1 = rw (le-ltb K n (omega (arith, ok.edges))) in
      let ones = add-ones n (λ i. cond (ltb i n) 0 1 + 0) (λ i h. rw (lt-ltb i n h)) (λ i h. rw (le-ltb i n h)) K (omega (arith, ok.edges)) in
      omega (arith, total (λ _. 0) (λ _. 0) 1 p name long n K ok, own, ones)

  pub root-number : row_after (children_of p name long n K) n ≡ K
  unfolding tally
  root-number =
      let is = ap brackets_of (node-is p name long n K (omega (arith, ok.edges))) in
      omega (arith, tree_brackets, rows-number (children_of p name long n K) n, is)

  -- ---- every strain is a leaf once, and no other name stands in the tree
  module _ (find : List ℕ → ℕ) (knows : (i : ℕ) → i < n → find (name i) ≡ i) where
    pub tree-uses : (u : ℕ) → u < n → leaves_with (λ l. eqb (find l) u) (tree K) ≡ 1
    tree-uses u h =
        let own : cond {A = ℕ} (ltb K n) (cond (eqb (find (name K)) u) 1 0) 0 ≡ 0 = rw (le-ltb K n (omega (arith, ok.edges))) in
        let one = add_single (λ i. cond (ltb i n) (cond (eqb (find (name i)) u) 1 0) 0 + 0) K u (omega (arith, ok.edges)) (rw (lt-ltb u n h, eq-eqb (find (name u)) u (knows u h))) (λ i l g. other i g) in
        omega (arith, total (λ l. cond (eqb (find l) u) 1 0) (λ _. 0) 0 p name long n K ok, own, one)
      where
        other : (i : ℕ) → (i ≡ u → ⊥) → cond {A = ℕ} (ltb i n) (cond (eqb (find (name i)) u) 1 0) 0 + 0 ≡ 0
        other i g = by_cases (dec_lt i n)
            (λ l. rw (lt-ltb i n l, ne_eqb (find (name i)) u (λ q. g (sym (knows i l) ∙ q))))
            (λ l. rw (le-ltb i n (omega arith)))

    pub tree-known : leaves_with (λ l. leb n (find l)) (tree K) ≡ 0
    tree-known =
        let own : cond {A = ℕ} (ltb K n) (cond (leb n (find (name K))) 1 0) 0 ≡ 0 = rw (le-ltb K n (omega (arith, ok.edges))) in
        omega (arith, total (λ l. cond (leb n (find l)) 1 0) (λ _. 0) 0 p name long n K ok, own, add-zeros (λ i. cond (ltb i n) (cond (leb n (find (name i))) 1 0) 0 + 0) K (λ i _. other i))
      where
        other : (i : ℕ) → cond {A = ℕ} (ltb i n) (cond (leb n (find (name i))) 1 0) 0 + 0 ≡ 0
        other i = by_cases (dec_lt i n)
            (λ l. rw (lt-ltb i n l, lt-leb n (find (name i)) (omega (arith, knows i l))))
            (λ l. rw (le-ltb i n (omega arith)))

  -- ---- the text is of the form: brackets nest at most as deep as there are inner vertices
  module _ (named : (i : ℕ) → i < n → is_name (name i) ≡ true) (measured : (i : ℕ) → i < K → is_length (long i) ≡ true) where
    row-formed : (m v : ℕ) → v ≤ K → ((w : ℕ) → w < v → Formed (tree w) m) → (j w : ℕ) → w + j ≤ v → RowFormed (row_from p long v tree w j) m
    unfolding row_from Formed
    row-formed m v k below zero w h = tt
    row-formed m v k below (suc j) w h = go (row-formed m v k below j (suc w) (omega arith)) (eqb (get_or p w 0) v)
      where
        go : RowFormed (row_from p long v tree (suc w) j) m → (c : Bool) → RowFormed (pick_row c (some (tree w) (long w) (row_from p long v tree (suc w) j)) (row_from p long v tree (suc w) j)) m
        go ih true = (below w (omega arith), measured w (omega arith), ih)
        go ih false = ih

    -- an inner vertex has a child
    has-child : (v : ℕ) → n ≤ v → v ≤ K → Some (children_of p name long n v)
    unfolding children_of
    has-child v h k = go (row_from p long v tree 0 v) refl
      where
        needs_one : 1 ≤ children K (parent_of p) v
        needs_one = by_cases (ℕ_discrete v K) (λ e. rw e (omega (arith, ok.root))) (λ e. omega (arith, ok.two v h (omega arith)))

        go : (r : Row) → row_from p long v tree 0 v ≡ r → Some r
        go (some t l r) e = tt
        go none e = absurd (omega (arith, needs_one, count_none K (kid (parent_of p) v) (λ i l. ne_eqb (get_or p i 0) v (λ q. no-child p long v tree v 0 e i (omega arith) (omega (arith, ok.up i l)) q))))

    formed : (m v : ℕ) → v ≤ K → v < n + m → Formed (tree v) m
    unfolding Formed children_of
    formed zero v k h = let l : v < n = omega arith in rw (leaf-is p name long n v l) (named v l)
    formed (suc m) v k h =
        let below : (w : ℕ) → w < v → Formed (tree w) m = λ w l. formed m w (omega arith) (omega arith) in
        let less : suc m - 1 ≡ m = omega arith in
        by_cases (dec_lt v n)
        (λ l. rw (leaf-is p name long n v l) (named v l))
        (λ l. rw (node-is p name long n v (omega arith)) (omega arith, has-child v (omega arith) k, rw less (row-formed m v k below v 0 (omega arith))))

    pub tree-formed : Formed (node (children_of p name long n K)) max_open
    tree-formed = rw (node-is p name long n K (omega (arith, ok.edges))) at (formed max_open K (omega arith) (omega (arith, ok.most, ok.few)))
