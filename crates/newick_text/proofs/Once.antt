-- Where every leaf stands once and children rise, no entry of a tree's table is lost to another: `fits`.
use mathlib.Core.Path.{◌≡◌, refl, sym, ◌∙◌}
use mathlib.Core.Bool.{Bool, true, false, cond}
use mathlib.Core.List.{List}
use mathlib.Core.Logic.{◌⊎◌, inl, inr, ⊎_elim}
use Prim.Native.Nat.{ℕ, suc, ◌<◌, ◌≤◌}
use native.Mathlib.Nat.{le_refl}
use native.Mathlib.Omega.{arith}
use borrow.Author.Tests.{eqb-true, eqb-false, eq-eqb, ne_eqb, ltb-true, ltb-false}
use lib.Dec.{eqb, ltb}
use Rattle.newick_text.specs.Tree.{Tree, leaf, node, Row, none, some, tally, row_tally, leaves_with}
use Rattle.newick_text.specs.Table.{after, row_after, number_of}
use Rattle.newick_text.proofs.Lookup.{Found, missing, below, first, where_same, There, look, row_look, after-up, row_up}

-- ---- of two, the first that is there
first-there : (a b : Found) → There (first a b) → There a ⊎ There b
first-there missing b h = inr h
first-there (below v l) b h = inl h

there-first : (a b : Found) → There a ⊎ There b → There (first a b)
there-first missing b (inl h) = absurd h
there-first missing b (inr h) = h
there-first (below v l) b h = tt

first_of : (a b : Found) → There a → first a b ≡ a
first_of missing b h = absurd h
first_of (below v l) b h = refl

there_or_not : (x : Found) → (x ≡ missing) ⊎ There x
there_or_not missing = inl refl
there_or_not (below v l) = inr tt

pub lt_or : (a b : ℕ) → (a < b) ⊎ (b ≤ a)
lt_or a b = go (ltb a b) refl
  where
    go : (c : Bool) → ltb a b ≡ c → (a < b) ⊎ (b ≤ a)
    go true e = inl (ltb-true a b e)
    go false e = inr (ltb-false a b e)

module _ (find : List ℕ → ℕ) (n : ℕ) where
  -- how many leaves have the number u
  abbrev pub uses : Tree → ℕ → ℕ
  uses t u = leaves_with (λ l. eqb (find l) u) t

  abbrev pub row_uses : Row → ℕ → ℕ
  row_uses r u = row_tally (λ l. cond (eqb (find l) u) 1 0) (λ _. 0) 0 r

  -- leaves are below n, and children rise as they are numbered
  unfoldable mutual
    pub Ordered : Tree → ℕ → Type 0
    Ordered (leaf l) k = find l < n
    Ordered (node r) k = RowOrdered r k 0

    pub RowOrdered : Row → ℕ → ℕ → Type 0
    RowOrdered none k w = Unit
    RowOrdered (some t l r) k w = (w ≤ number_of find t k) × Ordered t k × RowOrdered r (after t k) (suc (number_of find t k))

  -- u is the number of a vertex: of a leaf, or of a bracket
  abbrev pub Uses : Tree → ℕ → ℕ → Type 0
  Uses t k u = ((u < n) × (1 ≤ uses t u)) ⊎ ((n ≤ u) × (k ≤ u) × (u < after t k))

  abbrev RowUses : Row → ℕ → ℕ → Type 0
  RowUses r k u = ((u < n) × (1 ≤ row_uses r u)) ⊎ ((n ≤ u) × (k ≤ u) × (u < row_after r k))

  leaf-only : (l : List ℕ) (u : ℕ) → 1 ≤ cond {A = ℕ} (eqb (find l) u) 1 0 → u ≡ find l
  leaf-only l u h = go (eqb (find l) u) refl h
    where
      go : (b : Bool) → eqb (find l) u ≡ b → 1 ≤ cond {A = ℕ} b 1 0 → u ≡ find l
      go true e g = sym (eqb-true (find l) u e)
      go false e g = absurd (omega arith)

  number-uses : (t : Tree) (k : ℕ) → n ≤ k → Ordered t k → Uses t k (number_of find t k)
  unfolding number_of Ordered tally after
  number-uses (leaf l) k h o = inl (o, simp (eq-eqb (find l) (find l) refl) (le_refl 1))
  number-uses (node r) k h o = inr (omega (arith, row_up r k), row_up r k, omega arith)

  join_first : (t : Tree) (l : List ℕ) (r : Row) (k u : ℕ) → Uses t k u → RowUses (some t l r) k u
  unfolding row_tally row_after
  join_first t l r k u (inl x) = inl (x.0, omega (arith, x.1))
  join_first t l r k u (inr x) = inr (x.0, x.1, omega (arith, x.2, row_up r (after t k)))

  join-rest : (t : Tree) (l : List ℕ) (r : Row) (k u : ℕ) → RowUses r (after t k) u → RowUses (some t l r) k u
  unfolding row_tally row_after
  join-rest t l r k u (inl x) = inl (x.0, omega (arith, x.1))
  join-rest t l r k u (inr x) = inr (x.0, omega (arith, x.1, after-up t k), x.2)

  -- no number is used by a child and by a later one
  apart : (t : Tree) (l : List ℕ) (r : Row) (k u : ℕ) → row_uses (some t l r) u ≤ 1 → Uses t k u → RowUses r (after t k) u → ⊥
  unfolding row_tally
  apart t l r k u h (inl x) (inl y) = omega (arith, x.1, y.1)
  apart t l r k u h (inl x) (inr y) = omega (arith, x.0, y.0)
  apart t l r k u h (inr x) (inl y) = omega (arith, x.0, y.0)
  apart t l r k u h (inr x) (inr y) = omega (arith, x.2, y.1)

  root-uses : (r : Row) (k u : ℕ) → n ≤ k → RowUses r k u → Uses (node r) k u × (u ≡ number_of find (node r) k → ⊥)
  unfolding tally after number_of
  root-uses r k u h (inl x) = (inl (x.0, omega (arith, x.1)), λ e. omega (arith, x.0, row_up r k))
  root-uses r k u h (inr x) = (inr (x.0, x.1, omega (arith, x.2)), λ e. omega (arith, x.2))

  found-uses : (t : Tree) (l : List ℕ) (r : Row) (v k u : ℕ) → n ≤ k → Ordered t k → (There (row_look find r v (after t k) u) → RowUses r (after t k) u) → (There (look find t k u) → Uses t k u)
      → (b : Bool) → eqb u (number_of find t k) ≡ b → There (first (where_same b (below v l)) (first (row_look find r v (after t k) u) (look find t k u))) → RowUses (some t l r) k u
  found-uses t l r v k u h o f g true e p =
      join_first t l r k u (rw (eqb-true u (number_of find t k) e) (number-uses t k h o))
  found-uses t l r v k u h o f g false e p =
      ⊎_elim (λ z. join-rest t l r k u (f z)) (λ z. join_first t l r k u (g z)) (first-there (row_look find r v (after t k) u) (look find t k u) p)

  -- what is found below a root is used there, and is not the root
  mutual
    unfolding look Ordered

    pub look-uses : (t : Tree) (k u : ℕ) → n ≤ k → Ordered t k → There (look find t k u) → Uses t k u × (u ≡ number_of find t k → ⊥)
    look-uses (leaf l) k u h o p = absurd p
    look-uses (node r) k u h o p = root-uses r k u h (row-uses r (row_after r k) k u 0 h o p)

    row-uses : (r : Row) (v k u w : ℕ) → n ≤ k → RowOrdered r k w → There (row_look find r v k u) → RowUses r k u
    row-uses none v k u w h o p = absurd p
    row-uses (some t l r) v k u w h o p =
        found-uses t l r v k u h o.1
        (λ z. row-uses r v (after t k) u (suc (number_of find t k)) (omega (arith, after-up t k)) o.2 z)
        (λ z. (look-uses t k u h o.1 z).0)
        (eqb u (number_of find t k)) refl p

  -- and what is used is found, but for the root
  used-found : (t : Tree) (l : List ℕ) (r : Row) (v k u : ℕ) → (RowUses r (after t k) u → There (row_look find r v (after t k) u)) → (Uses t k u → (u ≡ number_of find t k) ⊎ There (look find t k u))
      → (b : Bool) → eqb u (number_of find t k) ≡ b → Uses t k u ⊎ RowUses r (after t k) u → There (first (where_same b (below v l)) (first (row_look find r v (after t k) u) (look find t k u)))
  used-found t l r v k u f g true e x = tt
  used-found t l r v k u f g false e (inl x) = there-first (row_look find r v (after t k) u) (look find t k u) (⊎_elim (λ z. absurd (eqb-false u (number_of find t k) e z)) (λ z. inr z) (g x))
  used-found t l r v k u f g false e (inr x) = there-first (row_look find r v (after t k) u) (look find t k u) (inl (f x))

  split-uses : (t : Tree) (l : List ℕ) (r : Row) (k u : ℕ) → RowUses (some t l r) k u → Uses t k u ⊎ RowUses r (after t k) u
  unfolding row_tally row_after
  split-uses t l r k u (inl x) = ⊎_elim (λ z. inr (inl (x.0, omega (arith, x.1, z)))) (λ z. inl (inl (x.0, z))) (lt_or (uses t u) 1)
  split-uses t l r k u (inr x) = ⊎_elim (λ z. inl (inr (x.0, x.1, z))) (λ z. inr (inr (x.0, z, x.2))) (lt_or u (after t k))

  mutual
    unfolding look tally after number_of

    pub uses-look : (t : Tree) (k u : ℕ) → Uses t k u → (u ≡ number_of find t k) ⊎ There (look find t k u)
    uses-look (leaf l) k u (inl x) = inl (leaf-only l u x.1)
    uses-look (leaf l) k u (inr x) = absurd (omega (arith, x.1, x.2))
    uses-look (node r) k u (inl x) = inr (uses-row r (row_after r k) k u (inl (x.0, omega (arith, x.1))))
    uses-look (node r) k u (inr x) = ⊎_elim (λ z. inr (uses-row r (row_after r k) k u (inr (x.0, x.1, z)))) (λ z. inl (omega (arith, z, x.2))) (lt_or u (row_after r k))

    uses-row : (r : Row) (v k u : ℕ) → RowUses r k u → There (row_look find r v k u)
    uses-row none v k u (inl x) = absurd (omega (arith, x.1))
    uses-row none v k u (inr x) = absurd (omega (arith, x.1, x.2))
    uses-row (some t l r) v k u x =
        used-found t l r v k u (λ z. uses-row r v (after t k) u z) (λ z. uses-look t k u z) (eqb u (number_of find t k)) refl (split-uses t l r k u x)

-- ---- entries E that are those of a tree: leaves are below n, each child's entry is its bracket and its length, and children rise
unfoldable mutual
  pub Fits : (List ℕ → ℕ) → ℕ → (ℕ → Found) → Tree → ℕ → Type 0
  Fits find n E (leaf l) k = find l < n
  Fits find n E (node r) k = RowFits find n E r (row_after r k) k 0

  pub RowFits : (List ℕ → ℕ) → ℕ → (ℕ → Found) → Row → ℕ → ℕ → ℕ → Type 0
  RowFits find n E none v k w = Unit
  RowFits find n E (some t l r) v k w = (w ≤ number_of find t k) × (E (number_of find t k) ≡ below v l) × Fits find n E t k × RowFits find n E r v (after t k) (suc (number_of find t k))

module _ (find : List ℕ → ℕ) (n : ℕ) (E : ℕ → Found) where
  -- E has the entry that the tree gives, of each vertex below the root
  abbrev Agrees : Tree → ℕ → Type 0
  Agrees t k = (u : ℕ) → There (look find t k u) → E u ≡ look find t k u

  abbrev RowAgrees : Row → ℕ → ℕ → Type 0
  RowAgrees r v k = (u : ℕ) → There (row_look find r v k u) → E u ≡ row_look find r v k u

  -- the first child itself, what is below it, and the others
  at-number : (t : Tree) (l : List ℕ) (r : Row) (v k : ℕ) → RowAgrees (some t l r) v k → E (number_of find t k) ≡ below v l
  unfolding row_look
  at-number t l r v k a = a (number_of find t k) (rw is tt) ∙ is
    where
      is : first (where_same (eqb (number_of find t k) (number_of find t k)) (below v l)) (first (row_look find r v (after t k) (number_of find t k)) (look find t k (number_of find t k))) ≡ below v l
      is = simp (eq-eqb (number_of find t k) (number_of find t k) refl)

  at_first_lem : (t : Tree) (l : List ℕ) (r : Row) (v k w : ℕ) → n ≤ k → RowOrdered find n (some t l r) k w → ((u : ℕ) → row_uses find n (some t l r) u ≤ 1) → RowAgrees (some t l r) v k → Agrees t k
  unfolding row_look RowOrdered
  at_first_lem t l r v k w h o c a u p = a u (rw is p) ∙ is
    where
      used : Uses find n t k u × (u ≡ number_of find t k → ⊥)
      used = look-uses find n t k u h o.1 p

      clear : row_look find r v (after t k) u ≡ missing
      clear = ⊎_elim (λ z. z) (λ z. absurd (apart find n t l r k u (c u) used.0 (row-uses find n r v (after t k) u (suc (number_of find t k)) (omega (arith, after-up t k)) o.2 z))) (there_or_not (row_look find r v (after t k) u))

      is : first (where_same (eqb u (number_of find t k)) (below v l)) (first (row_look find r v (after t k) u) (look find t k u)) ≡ look find t k u
      is = simp (ne_eqb u (number_of find t k) used.1, clear)

  at_rest : (t : Tree) (l : List ℕ) (r : Row) (v k w : ℕ) → n ≤ k → RowOrdered find n (some t l r) k w → ((u : ℕ) → row_uses find n (some t l r) u ≤ 1) → RowAgrees (some t l r) v k → RowAgrees r v (after t k)
  unfolding row_look RowOrdered
  at_rest t l r v k w h o c a u p = a u (rw is p) ∙ is
    where
      used : RowUses find n r (after t k) u
      used = row-uses find n r v (after t k) u (suc (number_of find t k)) (omega (arith, after-up t k)) o.2 p

      other : u ≡ number_of find t k → ⊥
      other e = apart find n t l r k u (c u) (rw e (number-uses find n t k h o.1)) used

      is : first (where_same (eqb u (number_of find t k)) (below v l)) (first (row_look find r v (after t k) u) (look find t k u)) ≡ row_look find r v (after t k) u
      is = simp (ne_eqb u (number_of find t k) other) (first_of (row_look find r v (after t k) u) (look find t k u) p)

  mutual
    unfolding Fits Ordered tally look

    pub fits : (t : Tree) (k : ℕ) → n ≤ k → Ordered find n t k → ((u : ℕ) → uses find n t u ≤ 1) → Agrees t k → Fits find n E t k
    fits (leaf l) k h o c a = o
    fits (node r) k h o c a = row_fits r (row_after r k) k 0 h o (λ u. omega (arith, c u)) a

    row_fits : (r : Row) (v k w : ℕ) → n ≤ k → RowOrdered find n r k w → ((u : ℕ) → row_uses find n r u ≤ 1) → RowAgrees r v k → RowFits find n E r v k w
    row_fits none v k w h o c a = tt
    row_fits (some t l r) v k w h o c a = (
      o.0,
      at-number t l r v k a,
      fits t k h o.1 (λ u. omega (arith, c u)) (at_first_lem t l r v k w h o c a),
      row_fits r v (after t k) (suc (number_of find t k)) (omega (arith, after-up t k)) o.2 (λ u. omega (arith, c u)) (at_rest t l r v k w h o c a),
    )
