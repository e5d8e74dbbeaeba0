-- A sum over the tree of an allowed table is the sum over its vertices: each strain's name, each edge's length, each inner vertex once (`total`).
-- Vertices are taken in turn. Before the turn of j the sums of the vertices below j whose parents are j or above are together all that
-- the vertices below j have of their own (`hanging-is`): at j's turn its children's go into its own.
use mathlib.Core.Path.{◌≡◌, refl, sym, ◌∙◌, ap, ap₂}
use mathlib.Core.Bool.{Bool, true, false, cond}
use mathlib.Core.List.{List}
use Prim.Native.Nat.{ℕ, zero, suc, ◌+◌, ◌*◌, ◌<◌, ◌≤◌}
use native.Mathlib.Decide.{dec_lt, ℕ_discrete}
use native.Mathlib.Omega.{arith}
use borrow.Author.Tests.{lt-ltb, le-ltb, le-leb, eq-eqb, ne_eqb, lt-leb}
use lib.Dec.{eqb, ltb, leb}
use lib.ListN.{get_or}
use Rattle.exact.proofs.Decide.{by_cases}
use Rattle.tree_theory.specs.Chain.{parent_of}
use Rattle.tree_theory.specs.Allowed.{Allowed}
use Rattle.newick_text.specs.Tree.{Tree, some, tally, row_tally}
use Rattle.newick_text.specs.Table.{pick_row, row_from, tree_of, children_of}
use Rattle.newick_text.proofs.Trees.{leaf-is, node-is}

-- ---- sums of numbers: f w, f (w + 1), .., j of them
unfoldable pub add_from : ℕ → ℕ → (ℕ → ℕ) → ℕ
add_from w zero f = 0
add_from w (suc j) f = f w + add_from (suc w) j f

abbrev pub add : ℕ → (ℕ → ℕ) → ℕ
add n f = add_from 0 n f

pub add_none : (f : ℕ → ℕ) → add 0 f ≡ 0
unfolding add_from
add_none f = refl

add-last : (f : ℕ → ℕ) (j w : ℕ) → add_from w (suc j) f ≡ add_from w j f + f (w + j)
unfolding add_from
add-last f zero w = let e : w + 0 ≡ w = omega arith in rw e (omega arith)
add-last f (suc j) w =
    let e : suc w + j ≡ w + suc j = omega arith in
    let ih = rw e at (add-last f j (suc w)) in
    omega (arith, ih)

pub add-more : (f : ℕ → ℕ) (j : ℕ) → add (suc j) f ≡ add j f + f j
add-more f j = let e : 0 + j ≡ j = omega arith in add-last f j 0 ∙ ap (λ (i : ℕ). add j f + f i) e

pub add_same : (f g : ℕ → ℕ) (j w : ℕ) → ((i : ℕ) → w ≤ i → i < w + j → f i ≡ g i) → add_from w j f ≡ add_from w j g
unfolding add_from
add_same f g zero w h = refl
add_same f g (suc j) w h = ap₂ ◌+◌ (h w (omega arith) (omega arith)) (add_same f g j (suc w) (λ i l m. h i (omega arith) (omega arith)))

add-both : (f g : ℕ → ℕ) (j w : ℕ) → add_from w j (λ i. f i + g i) ≡ add_from w j f + add_from w j g
unfolding add_from
add-both f g zero w = refl
add-both f g (suc j) w = omega (arith, add-both f g j (suc w))

pub add_most : (f : ℕ → ℕ) (m j w : ℕ) → ((i : ℕ) → w ≤ i → i < w + j → f i ≤ m) → add_from w j f ≤ m * j
unfolding add_from
add_most f m zero w h = omega arith
add_most f m (suc j) w h =
    let ih = add_most f m j (suc w) (λ i l k. h i (omega arith) (omega arith)) in
    let e : m * suc j ≡ m + m * j = omega arith in
    omega (arith, ih, h w (omega arith) (omega arith))

-- ---- a sum over children found by a scan of the table
module _ (leaves edges : List ℕ → ℕ) (brackets : ℕ) (p : List ℕ) (long : ℕ → List ℕ) (v : ℕ) (T : ℕ → Tree) where
  -- what a vertex gives its parent
  abbrev given : ℕ → ℕ
  given w = tally leaves edges brackets (T w) + edges (long w)

  row-total : (j w : ℕ) → row_tally leaves edges brackets (row_from p long v T w j) ≡ add_from w j (λ i. cond (eqb (get_or p i 0) v) (given i) 0)
  unfolding row_from row_tally add_from
  row-total zero w = refl
  row-total (suc j) w = go (row-total j (suc w)) (eqb (get_or p w 0) v)
    where
      go : row_tally leaves edges brackets (row_from p long v T (suc w) j) ≡ add_from (suc w) j (λ i. cond (eqb (get_or p i 0) v) (given i) 0)
          → (c : Bool) → row_tally leaves edges brackets (pick_row c (some (T w) (long w) (row_from p long v T (suc w) j)) (row_from p long v T (suc w) j))
          ≡ cond c (given w) 0 + add_from (suc w) j (λ i. cond (eqb (get_or p i 0) v) (given i) 0)
      go ih true = omega (arith, ih)
      go ih false = omega (arith, ih)

-- ---- over an allowed table
module _ (leaves edges : List ℕ → ℕ) (brackets : ℕ) (p : List ℕ) (name long : ℕ → List ℕ) (n K : ℕ) (ok : Allowed n K (parent_of p)) where
  abbrev sum_at : ℕ → ℕ
  sum_at v = tally leaves edges brackets (tree_of p name long n v)

  abbrev gives : ℕ → ℕ
  gives w = sum_at w + edges (long w)

  -- what a vertex has of its own
  abbrev own : ℕ → ℕ
  own v = cond (ltb v n) (leaves (name v)) brackets

  -- no vertex is above a strain
  childless : (v : ℕ) → v < n → v ≤ K → add v (λ i. cond (eqb (get_or p i 0) v) (gives i) 0) ≡ 0
  childless v h k =
      let most = add_most (λ i. cond (eqb (get_or p i 0) v) (gives i) 0) 0 v 0 (λ i l m. let e : eqb (get_or p i 0) v ≡ false = ne_eqb (get_or p i 0) v (λ q. omega (arith, ok.inner i (omega arith))) in rw e (omega arith)) in
      omega (arith, most)

  -- a vertex has its own, and what its children give
  sum_is : (v : ℕ) → v ≤ K → sum_at v ≡ own v + add v (λ i. cond (eqb (get_or p i 0) v) (gives i) 0)
  unfolding tally children_of
  sum_is v k = by_cases (dec_lt v n)
      (λ h. ap (tally leaves edges brackets) (leaf-is p name long n v h) ∙ rw (lt-ltb v n h) (omega (arith, childless v h k)))
      (λ h. ap (tally leaves edges brackets) (node-is p name long n v (omega arith)) ∙ rw (le-ltb v n (omega arith)) (ap (λ (x : ℕ). brackets + x) (row-total leaves edges brackets p long v (tree_of p name long n) v 0)))

  -- what hangs open before the turn of j
  abbrev hanging : ℕ → ℕ → ℕ
  hanging j i = cond (leb j (get_or p i 0)) (gives i) 0

  split : (j i : ℕ) → hanging j i ≡ cond (eqb (get_or p i 0) j) (gives i) 0 + hanging (suc j) i
  split j i = by_cases (ℕ_discrete (get_or p i 0) j)
      (λ e. rw (le-leb j (get_or p i 0) (omega arith), eq-eqb (get_or p i 0) j e, lt-leb (suc j) (get_or p i 0) (omega arith)) (omega arith))
      (λ e. rw (ne_eqb (get_or p i 0) j e) (by_cases (dec_lt j (get_or p i 0))
      (λ l. rw (le-leb j (get_or p i 0) (omega arith), le-leb (suc j) (get_or p i 0) (omega arith)) (omega arith))
      (λ l. rw (lt-leb j (get_or p i 0) (omega arith), lt-leb (suc j) (get_or p i 0) (omega arith)))))

  hanging-is : (j : ℕ) → j ≤ K → add j (hanging j) ≡ add j (λ i. own i + edges (long i))
  hanging-is zero h = add_none (hanging 0) ∙ sym (add_none (λ i. own i + edges (long i)))
  hanging-is (suc j) h =
      let ih = hanging-is j (omega arith) in
      let parted = add_same (hanging j) (λ i. cond (eqb (get_or p i 0) j) (gives i) 0 + hanging (suc j) i) j 0 (λ i _ _. split j i)
      ∙ add-both (λ i. cond (eqb (get_or p i 0) j) (gives i) 0) (hanging (suc j)) j 0 in
      let last = add-more (hanging (suc j)) j in
      let mine : hanging (suc j) j ≡ gives j = rw (le-leb (suc j) (get_or p j 0) (omega (arith, ok.up j (omega arith)))) in
      let due = add-more (λ i. own i + edges (long i)) j in
      omega (arith, ih, parted, last, mine, due, sum_is j (omega arith))

  -- the whole tree
  pub total : sum_at K ≡ own K + add K (λ i. own i + edges (long i))
  total =
      sum_is K (omega arith)
      ∙ ap (λ (x : ℕ). own K + x) (add_same (λ i. cond (eqb (get_or p i 0) K) (gives i) 0) (hanging K) K 0 at-root ∙ hanging-is K (omega arith))
    where
      at-root : (i : ℕ) → 0 ≤ i → i < 0 + K → cond (eqb (get_or p i 0) K) (gives i) 0 ≡ hanging K i
      at-root i _ h = by_cases (ℕ_discrete (get_or p i 0) K)
          (λ e. rw (eq-eqb (get_or p i 0) K e, le-leb K (get_or p i 0) (omega arith)))
          (λ e. rw (ne_eqb (get_or p i 0) K e, lt-leb K (get_or p i 0) (omega (arith, ok.top i (omega arith)))))
