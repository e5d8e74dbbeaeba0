-- The tree of a tree's tables is that tree: so what is read differs from what was written in the numbers of inner vertices alone.
use mathlib.Core.Path.{◌≡◌, refl, sym, ◌∙◌, ap}
use mathlib.Core.Bool.{Bool, true, false}
use mathlib.Core.List.{List}
use mathlib.Core.Logic.{◌⊎◌, inl, inr, ⊎_elim}
use Prim.Native.Nat.{ℕ, zero, suc, ◌+◌, ◌-◌, ◌<◌, ◌≤◌}
use native.Mathlib.Decide.{dec_lt, ℕ_discrete}
use native.Mathlib.Nat.{le_refl}
use native.Mathlib.Omega.{arith}
use borrow.Author.Tests.{eqb-true, eqb-false}
use lib.Dec.{eqb}
use lib.ListN.{get_or}
use Rattle.exact.proofs.Decide.{by_cases}
use Rattle.newick_text.specs.Tree.{Tree, leaf, node, Row, none, some}
use Rattle.newick_text.specs.Table.{pick_row, row_from, tree_of, children_of, after, row_after, number_of}
use Rattle.newick_text.proofs.Trees.{leaf-is, node-is, children_are}
use Rattle.newick_text.proofs.Lookup.{Found, missing, below, first, where_same, There, bracket_in, look, row_look, after-up, row_up, In, look_in, row_in}
use Rattle.newick_text.proofs.Once.{Fits, RowFits, fits, lt_or, uses, Ordered, uses-look}

-- u is the number of a child
unfoldable Member : (List ℕ → ℕ) → Row → ℕ → ℕ → Type 0
Member find none k u = ⊥
Member find (some t l r) k u = (u ≡ number_of find t k) ⊎ Member find r (after t k) u

-- ---- children found by a scan of the table
module _ (find : List ℕ → ℕ) (q : List ℕ) (long : ℕ → List ℕ) (v : ℕ) (T : ℕ → Tree) where
  -- from w on the children rise, are in the table, and have the trees that T and the lengths that `long` gives
  Rising : Row → ℕ → ℕ → Type 0
  Rising none k w = Unit
  Rising (some t l r) k w =
      (w ≤ number_of find t k) × (number_of find t k < v) × (get_or q (number_of find t k) 0 ≡ v) × (T (number_of find t k) ≡ t) × (long (number_of find t k) ≡ l)
      × Rising r (after t k) (suc (number_of find t k))

  -- a number that is no child may be passed
  pass : (r : Row) (k w : ℕ) → (get_or q w 0 ≡ v → ⊥) → Rising r k w → Rising r k (suc w)
  unfolding Rising
  pass none k w h x = tt
  pass (some t l r) k w h x = (above, x.1, x.2, x.3, x.4, x.5)
    where
      above : suc w ≤ number_of find t k
      above = go (eqb w (number_of find t k)) refl
        where
          go : (b : Bool) → eqb w (number_of find t k) ≡ b → suc w ≤ number_of find t k
          go true e = absurd (h (ap (λ (i : ℕ). get_or q i 0) (eqb-true w (number_of find t k) e) ∙ x.2))
          go false e = omega (arith, eqb-false w (number_of find t k) e, x.0)

  member_above : (r : Row) (k w u : ℕ) → Rising r k w → Member find r k u → w ≤ u
  unfolding Rising Member
  member_above none k w u x m = absurd m
  member_above (some t l r) k w u x (inl e) = omega (arith, x.0)
  member_above (some t l r) k w u x (inr m) = omega (arith, x.0, member_above r (after t k) (suc (number_of find t k)) u x.5 m)

  -- every number from w on whose entry is v is a child
  Whole : Row → ℕ → ℕ → Type 0
  Whole r k w = (u : ℕ) → w ≤ u → u < v → get_or q u 0 ≡ v → Member find r k u

  scan_step : (w j : ℕ) → w < v → ((r : Row) (k : ℕ) → Rising r k (suc w) → Whole r k (suc w) → row_from q long v T (suc w) j ≡ r)
      → (b : Bool) → eqb (get_or q w 0) v ≡ b → (r : Row) (k : ℕ) → Rising r k w → Whole r k w → pick_row b (some (T w) (long w) (row_from q long v T (suc w) j)) (row_from q long v T (suc w) j) ≡ r
  unfolding Rising Member Whole
  scan_step w j l ih true e none k x f = absurd (f w (le_refl w) l (eqb-true (get_or q w 0) v e))
  scan_step w j l ih true e (some t m r) k x f = found (f w (le_refl w) l (eqb-true (get_or q w 0) v e))
    where
      found : (w ≡ number_of find t k) ⊎ Member find r (after t k) w → some (T w) (long w) (row_from q long v T (suc w) j) ≡ some t m r
      found (inr i) = absurd (omega (arith, x.0, member_above r (after t k) (suc (number_of find t k)) w x.5 i))
      found (inl s) =
          let tree : T w ≡ t = ap T s ∙ x.3 in
          let edge : long w ≡ m = ap long s ∙ x.4 in
          let rest = ih r (after t k) (rw s x.5) (λ u a b g. ⊎_elim (λ z. absurd (omega (arith, z, s, a))) (λ i. i) (f u (omega (arith, a)) b g)) in
          cc
  scan_step w j l ih false e r k x f = ih r k (pass r k w (eqb-false (get_or q w 0) v e) x) (λ u a b g. f u (omega (arith, a)) b g)

  scan : (j w : ℕ) (r : Row) (k : ℕ) → w + j ≡ v → Rising r k w → Whole r k w → row_from q long v T w j ≡ r
  unfolding row_from Rising
  scan zero w none k s x f = refl
  scan zero w (some t l r) k s x f = absurd (omega (arith, x.0, x.1))
  scan (suc j) w r k s x f =
      scan_step w j (omega arith) (λ r' k' x' f'. scan j (suc w) r' k' (omega arith) x' f') (eqb (get_or q w 0) v) refl r k x f

-- ---- a lookup that gives the bracket itself finds a child
from_first : (a b : Found) (v : ℕ) → bracket_in (first a b) ≡ v → (There a × (bracket_in a ≡ v)) ⊎ ((a ≡ missing) × (bracket_in b ≡ v))
from_first missing b v e = inr (refl, e)
from_first (below w l) b v e = inl (tt, e)

-- a bracket that is found lies where `In` says, or it is 0
in_range : (lo hi v : ℕ) (x : Found) → In lo hi x → bracket_in x ≡ v → (v ≡ 0) ⊎ ((lo ≤ v) × (v < hi))
in_range lo hi v missing i e = inl (sym e)
in_range lo hi v (below w l) i e = inr (omega (arith, e, i.0), omega (arith, e, i.1))

module _ (find : List ℕ → ℕ) where
  look_member : (r : Row) (v k u : ℕ) → 0 < k → row_after r k ≤ v → bracket_in (row_look find r v k u) ≡ v → Member find r k u
  unfolding row_look Member row_after
  look_member none v k u z h e = absurd (omega arith)
  look_member (some t l r) v k u z h e = go (λ i. look_member r v (after t k) u (omega (arith, after-up t k)) h i) (eqb u (number_of find t k)) refl e
    where
      up : k ≤ after t k
      up = after-up t k

      low : after t k ≤ v
      low = omega (arith, row_up r (after t k))

      inner : bracket_in (look find t k u) ≡ v → ⊥
      inner g = ⊎_elim (λ i. omega (arith, i, up, low, z)) (λ i. omega (arith, i.1, low)) (in_range k (after t k) v (look find t k u) (look_in find t k u) g)

      go : (bracket_in (row_look find r v (after t k) u) ≡ v → Member find r (after t k) u) → (b : Bool) → eqb u (number_of find t k) ≡ b
          → bracket_in (first (where_same b (below v l)) (first (row_look find r v (after t k) u) (look find t k u))) ≡ v → (u ≡ number_of find t k) ⊎ Member find r (after t k) u
      go ih true s f = inl (eqb-true u (number_of find t k) s)
      go ih false s f = ⊎_elim (λ i. inr (ih i.1)) (λ i. absurd (inner i.1)) (from_first (row_look find r v (after t k) u) (look find t k u) v f)

-- every bracket of a tree has P
unfoldable mutual
  pub Brackets : (Row → Type 0) → Tree → Type 0
  Brackets P (leaf n) = Unit
  Brackets P (node r) = P r × RowBrackets P r

  pub RowBrackets : (Row → Type 0) → Row → Type 0
  RowBrackets P none = Unit
  RowBrackets P (some t l r) = Brackets P t × RowBrackets P r

-- a tree that is a bracket with P
pub record Bracket (P : Row → Type 0) (t : Tree) : Type 0 where
  pub children : Row
  pub is : t ≡ node children
  pub has : P children

-- ---- the theorem, over tables whose entries below R are those of E
module _ (find : List ℕ → ℕ) (q : List ℕ) (name long : ℕ → List ℕ) (n R : ℕ) (E : ℕ → Found) (some-leaf : 0 < n)
    (knows : (l : List ℕ) → find l < n → name (find l) ≡ l)
    (parents : (u : ℕ) → u < R → get_or q u 0 ≡ bracket_in (E u))
    (lengths : (u v : ℕ) (l : List ℕ) → u < R → E u ≡ below v l → long u ≡ l) where
  -- the entries below R that are brackets of this tree are entries of its own vertices
  Owns : Tree → ℕ → Type 0
  Owns t k = (u x : ℕ) → u < R → k ≤ x → x < after t k → get_or q u 0 ≡ x → bracket_in (look find t k u) ≡ x

  -- likewise of children whose bracket is v
  RowOwns : Row → ℕ → ℕ → Type 0
  RowOwns r v k = (u x : ℕ) → u < R → k ≤ x → x < row_after r k → get_or q u 0 ≡ x → bracket_in (row_look find r v k u) ≡ x

  -- the number of a vertex is below that of the bracket around it
  number-below : (t : Tree) (k v : ℕ) → n ≤ k → after t k ≤ v → Fits find n E t k → number_of find t k < v
  unfolding after number_of Fits
  number-below (leaf l) k v h m f = omega (arith, f)
  number-below (node r) k v h m f = omega arith

  -- from the children's brackets to the first child's, and to those of the others
  own_first : (t : Tree) (l : List ℕ) (r : Row) (v k : ℕ) → n ≤ k → row_after r (after t k) ≤ v → RowOwns (some t l r) v k → Owns t k
  unfolding Owns RowOwns row_look row_after
  own_first t l r v k h m o u x b lo hi e = go (eqb u (number_of find t k)) (o u x b lo (omega (arith, row_up r (after t k))) e)
    where
      up : after t k ≤ row_after r (after t k)
      up = row_up r (after t k)

      behind : bracket_in (first (row_look find r v (after t k) u) (look find t k u)) ≡ x → bracket_in (look find t k u) ≡ x
      behind f = ⊎_elim
          (λ i. ⊎_elim (λ j. absurd (omega (arith, j, lo, h, some-leaf))) (λ j. absurd (omega (arith, j.0, hi))) (in_range (after t k) (suc v) x (row_look find r v (after t k) u) (row_in find r v (after t k) u m) i.1))
          (λ i. i.1) (from_first (row_look find r v (after t k) u) (look find t k u) x f)

      go : (c : Bool) → bracket_in (first (where_same c (below v l)) (first (row_look find r v (after t k) u) (look find t k u))) ≡ x → bracket_in (look find t k u) ≡ x
      go true f = absurd (omega (arith, f, up, m, hi))
      go false f = behind f

  own-rest : (t : Tree) (l : List ℕ) (r : Row) (v k : ℕ) → n ≤ k → row_after r (after t k) ≤ v → RowOwns (some t l r) v k → RowOwns r v (after t k)
  unfolding RowOwns row_look row_after
  own-rest t l r v k h m o u x b lo hi e = go (eqb u (number_of find t k)) (o u x b (omega (arith, after-up t k)) hi e)
    where
      behind : bracket_in (first (row_look find r v (after t k) u) (look find t k u)) ≡ x → bracket_in (row_look find r v (after t k) u) ≡ x
      behind f = ⊎_elim (λ i. i.1)
          (λ i. ⊎_elim (λ j. absurd (omega (arith, j, lo, after-up t k, h, some-leaf))) (λ j. absurd (omega (arith, j.1, lo))) (in_range k (after t k) x (look find t k u) (look_in find t k u) i.1))
          (from_first (row_look find r v (after t k) u) (look find t k u) x f)

      go : (c : Bool) → bracket_in (first (where_same c (below v l)) (first (row_look find r v (after t k) u) (look find t k u))) ≡ x → bracket_in (row_look find r v (after t k) u) ≡ x
      go true f = absurd (omega (arith, f, m, hi))
      go false f = behind f

  abbrev again : ℕ → Tree
  again v = tree_of q name long n v

  mutual
    unfolding Fits Owns RowOwns Rising Whole after number_of look

    back : (t : Tree) (k : ℕ) → n ≤ k → after t k ≤ suc R → Fits find n E t k → Owns t k → again (number_of find t k) ≡ t
    back (leaf l) k h m f o = leaf-is q name long n (find l) f ∙ ap leaf (knows l f)
    back (node r) k h m f o =
        let v = row_after r k in
        let up = row_up r k in
        node-is q name long n v (omega arith)
        ∙ ap node (children_are q name long n v
        ∙ scan find q long v again (v - 0) 0 r k (omega arith) (rising r v k 0 h (le_refl v) (omega arith) f (λ u x b lo hi e. o u x b lo (omega arith) e))
        (λ u a b g. look_member find r v k u (omega (arith, some-leaf)) (le_refl v) (o u v (omega arith) up (omega arith) g)))

    rising : (r : Row) (v k w : ℕ) → n ≤ k → row_after r k ≤ v → v ≤ R → RowFits find n E r v k w → RowOwns r v k → Rising find q long v again r k w
    rising none v k w h m b f o = tt
    rising (some t l r) v k w h m b f o =
        let up = row_up r (after t k) in
        let on = after-up t k in
        let lower = number-below t k v h (omega arith) f.2 in (
          f.0,
          lower,
          parents (number_of find t k) (omega arith) ∙ ap bracket_in f.1,
          back t k h (omega arith) f.2 (own_first t l r v k h m o),
          lengths (number_of find t k) v l (omega arith) f.1,
          rising r v (after t k) (suc (number_of find t k)) (omega arith) m b f.3 (own-rest t l r v k h m o),
        )

  -- the tree of every inner vertex is a bracket of the tree
  module _ (P : Row → Type 0) where
    mutual
      unfolding Fits Owns RowOwns Brackets after number_of look

      bracket_at : (t : Tree) (k : ℕ) → n ≤ k → after t k ≤ suc R → Fits find n E t k → Owns t k → Brackets P t → (v : ℕ) → k ≤ v → v < after t k → Bracket P (again v)
      bracket_at (leaf l) k h m f o b v lo hi = absurd (omega arith)
      bracket_at (node r) k h m f o b v lo hi =
          let below : v < row_after r k → Bracket P (again v) = λ l. row_bracket_at r (row_after r k) k 0 h (le_refl (row_after r k)) (omega arith) f (λ u x c g i e. o u x c g (omega arith) e) b.1 v lo l in
          by_cases (ℕ_discrete v (row_after r k))
          (λ e. record { children = r; is = ap again e ∙ back (node r) k h m f o; has = b.0 })
          (λ e. below (omega arith))

      row_bracket_at : (r : Row) (w k x : ℕ) → n ≤ k → row_after r k ≤ w → w ≤ R → RowFits find n E r w k x → RowOwns r w k → RowBrackets P r → (v : ℕ) → k ≤ v → v < row_after r k → Bracket P (again v)
      row_bracket_at none w k x h m c f o b v lo hi = absurd (omega arith)
      row_bracket_at (some t l r) w k x h m c f o b v lo hi =
          let up = row_up r (after t k) in
          let first : v < after t k → Bracket P (again v) = λ y. bracket_at t k h (omega arith) f.2 (own_first t l r w k h m o) b.0 v lo y in
          let rest : after t k ≤ v → Bracket P (again v) = λ y. row_bracket_at r w (after t k) (suc (number_of find t k)) (omega (arith, after-up t k)) m c f.3 (own-rest t l r w k h m o) b.1 v y hi in
          by_cases (dec_lt v (after t k)) first (λ y. rest (omega arith))

-- ---- of any tree whose strains all stand once and whose children rise, with tables that have an entry for each vertex below its root
module _ (find : List ℕ → ℕ) (name : ℕ → List ℕ) (n : ℕ) (some-leaf : 0 < n) (knows : (l : List ℕ) → find l < n → name (find l) ≡ l)
    (r : Row) (o : Ordered find n (node r) n) (c : (u : ℕ) → uses find n (node r) u ≤ 1) (all : (u : ℕ) → u < n → 1 ≤ uses find n (node r) u) where
  abbrev K : ℕ
  K = row_after r n

  abbrev E : ℕ → Found
  E = look find (node r) n

  -- every number below the root is found
  found : (u : ℕ) → u < K → There (E u)
  unfolding after number_of
  found u h = ⊎_elim (λ e. absurd (omega (arith, e))) (λ z. z) (uses-look find n (node r) n u (⊎_elim (λ z. inl (z, all u z)) (λ z. inr (z, z, omega arith)) (lt_or u n)))

  tree_again : (q : List ℕ) (long : ℕ → List ℕ) → ((u : ℕ) → u < K → get_or q u 0 ≡ bracket_in (E u)) → ((u v : ℕ) (l : List ℕ) → u < K → E u ≡ below v l → long u ≡ l) → tree_of q name long n K ≡ node r
  unfolding Owns after number_of
  tree_again q long p m =
      back find q name long n K E some-leaf knows p m (node r) n (le_refl n) (le_refl (suc K)) (fits find n E (node r) n (le_refl n) o c (λ u z. refl)) (λ u x b lo hi e. sym (p u b) ∙ e)

  pub row-again : (q : List ℕ) (long : ℕ → List ℕ) → ((u : ℕ) → u < K → get_or q u 0 ≡ bracket_in (E u)) → ((u v : ℕ) (l : List ℕ) → u < K → E u ≡ below v l → long u ≡ l) → children_of q name long n K ≡ r
  row-again q long p m = let e : node (children_of q name long n K) ≡ node r = sym (node-is q name long n K (row_up r n)) ∙ tree_again q long p m in cc

  pub brackets_again : (P : Row → Type 0) (q : List ℕ) (long : ℕ → List ℕ) → ((u : ℕ) → u < K → get_or q u 0 ≡ bracket_in (E u)) → ((u v : ℕ) (l : List ℕ) → u < K → E u ≡ below v l → long u ≡ l)
      → Brackets P (node r) → (v : ℕ) → n ≤ v → v ≤ K → Bracket P (tree_of q name long n v)
  unfolding Owns after number_of
  brackets_again P q long p m b v lo hi =
      bracket_at find q name long n K E some-leaf knows p m P (node r) n (le_refl n) (le_refl (suc K)) (fits find n E (node r) n (le_refl n) o c (λ u z. refl)) (λ u x z g i e. sym (p u z) ∙ e) b v lo (omega arith)
