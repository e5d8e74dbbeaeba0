-- A tree that is read has parents that are greater than their children, inner vertices, and at most the root: 9 and 16 are given for no text.
use mathlib.Core.Path.{◌≡◌, refl, ◌∙◌}
use mathlib.Core.Bool.{Bool, true, false, cond}
use mathlib.Core.List.{List}
use mathlib.Core.Logic.{inl, inr, ⊎_elim}
use Prim.Native.Nat.{ℕ, suc, ◌<◌, ◌≤◌}
use native.Mathlib.Nat.{le_refl}
use native.Mathlib.Omega.{arith}
use borrow.Author.Tests.{eqb-true, le-ltb, lt-leb, leb-false}
use lib.Dec.{eqb, leb}
use lib.ListN.{get_or, length}
use Rattle.exact.specs.Table.{table}
use Rattle.exact.proofs.Fill.{length-table}
use Rattle.tree_theory.specs.Chain.{parent_of}
use Rattle.tree_theory.specs.Tests.{parent_out}
use Rattle.newick_text.specs.Tree.{Tree, leaf, node, Row, none, tally, row_tally, leaves_with}
use Rattle.newick_text.specs.Table.{after, row_after, number_of}
use Rattle.newick_text.specs.Tests.{edges_in, parents_in}
use Rattle.newick_text.proofs.Lookup.{Found, missing, below, first, where_same, There, entry_in, look, row_look, after-up, row_up, filled-look}
use Rattle.newick_text.proofs.Filling.{filled-length}
use Rattle.newick_text.proofs.Once.{uses, uses-look, lt_or}

-- what is found is above u, and an inner vertex
abbrev Up : ℕ → ℕ → ℕ → Found → Type 0
Up n hi u missing = Unit
Up n hi u (below v l) = (u < v) × (n ≤ v) × (v < hi)

first-up : (n hi u : ℕ) (a b : Found) → Up n hi u a → Up n hi u b → Up n hi u (first a b)
first-up n hi u missing b x y = y
first-up n hi u (below v l) b x y = x

wider_up : (n lo hi u : ℕ) (x : Found) → lo ≤ hi → Up n lo u x → Up n hi u x
wider_up n lo hi u missing h x = tt
wider_up n lo hi u (below v l) h x = (x.0, x.1, omega (arith, x.2))

module _ (find : List ℕ → ℕ) (n : ℕ) where
  -- leaves with unknown names
  abbrev strange : Tree → ℕ
  strange t = leaves_with (λ l. leb n (find l)) t

  abbrev row_strange : Row → ℕ
  row_strange r = row_tally (λ l. cond (leb n (find l)) 1 0) (λ _. 0) 0 r

  known : (l : List ℕ) → strange (leaf l) ≡ 0 → find l < n
  unfolding tally
  known l e = go (leb n (find l)) refl e
    where
      go : (b : Bool) → leb n (find l) ≡ b → cond {A = ℕ} b 1 0 ≡ 0 → find l < n
      go true q z = absurd (omega (arith, z))
      go false q z = leb-false n (find l) q

  number-under : (t : Tree) (k v : ℕ) → strange t ≡ 0 → n ≤ k → after t k ≤ v → number_of find t k < v
  unfolding number_of after
  number-under (leaf l) k v e h m = omega (arith, known l e)
  number-under (node r) k v e h m = omega arith

  where_up : (c : Bool) (hi u v : ℕ) (l : List ℕ) → (c ≡ true → u < v) → n ≤ v → v < hi → Up n hi u (where_same c (below v l))
  where_up true hi u v l h m g = (h refl, m, g)
  where_up false hi u v l h m g = tt

  mutual
    unfolding look after tally

    look_up : (t : Tree) (k u : ℕ) → strange t ≡ 0 → n ≤ k → Up n (after t k) u (look find t k u)
    look_up (leaf l) k u e h = tt
    look_up (node r) k u e h = row-look-up r (row_after r k) k u (omega (arith, e)) h (le_refl (row_after r k))

    row-look-up : (r : Row) (v k u : ℕ) → row_strange r ≡ 0 → n ≤ k → row_after r k ≤ v → Up n (suc v) u (row_look find r v k u)
    row-look-up none v k u e h m = tt
    row-look-up (Row.some t l r) v k u e h m =
        let one : strange t ≡ 0 = omega (arith, e) in
        let up = after-up t k in
        let on = row_up r (after t k) in
        first-up n (suc v) u (where_same (eqb u (number_of find t k)) (below v l)) (first (row_look find r v (after t k) u) (look find t k u))
        (where_up (eqb u (number_of find t k)) (suc v) u v l (λ q. omega (arith, eqb-true u (number_of find t k) q, number-under t k v one h (omega arith))) (omega arith) (omega arith))
        (first-up n (suc v) u (row_look find r v (after t k) u) (look find t k u) (row-look-up r v (after t k) u (omega (arith, e)) (omega arith) m) (wider_up n (after t k) (suc v) u (look find t k u) (omega arith) (look_up t k u one h)))

  -- every parent of a text whose strains all stand in it, and no other name
  module _ (r : Row) (clean : strange (node r) ≡ 0) (all : (u : ℕ) → u < n → 1 ≤ uses find n (node r) u) where
    abbrev K : ℕ
    K = edges_in find n r

    there : (u : ℕ) → u < K → There (look find (node r) n u)
    unfolding after number_of
    there u h = ⊎_elim (λ e. absurd (omega (arith, e))) (λ z. z) (uses-look find n (node r) n u (⊎_elim (λ z. inl (z, all u z)) (λ z. inr (z, z, omega arith)) (lt_or u n)))

    pub parent_up : (u : ℕ) → u < K → (u < get_or (parents_in find n r) u 0) × (n ≤ get_or (parents_in find n r) u 0) × (get_or (parents_in find n r) u 0 ≤ K)
    unfolding after
    parent_up u h =
        let is = filled-look find (λ v l. v) (node r) n (table K (λ _. 0)) u 0 (omega (arith, length-table {A = ℕ} K (λ _. 0))) in
        go (look find (node r) n u) is (there u h) (look_up (node r) n u clean (le_refl n))
      where
        go : (x : Found) → get_or (parents_in find n r) u 0 ≡ entry_in (λ v l. v) x (get_or (table K (λ _. 0)) u 0) → There x → Up n (suc K) u x
            → (u < get_or (parents_in find n r) u 0) × (n ≤ get_or (parents_in find n r) u 0) × (get_or (parents_in find n r) u 0 ≤ K)
        go missing is t up = absurd t
        go (below v l) is t up = rw is (up.0, up.1, omega (arith, up.2))

    edges_are : length (parents_in find n r) ≡ K
    edges_are = filled-length find (λ v l. v) (node r) n (table K (λ _. 0)) ∙ length-table {A = ℕ} K (λ _. 0)

    -- neither 9 nor 16
    pub parents-right : (u : ℕ) → u < length (parents_in find n r) → parent_out n (length (parents_in find n r)) (parent_of (parents_in find n r)) u ≡ false
    parents-right u h =
        let up = parent_up u (omega (arith, edges_are)) in
        simp (lt-leb (get_or (parents_in find n r) u 0) u up.0, le-ltb (get_or (parents_in find n r) u 0) n up.1, le-ltb (length (parents_in find n r)) (get_or (parents_in find n r) u 0) (omega (arith, edges_are, up.2)))
