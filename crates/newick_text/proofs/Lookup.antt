-- What the table of a tree holds: of each vertex below the root its entry, as `look` finds it, and of every other number what stood there.
use mathlib.Core.Path.{◌≡◌, refl, ◌∙◌, ap}
use mathlib.Core.Bool.{Bool, true, false}
use mathlib.Core.List.{List}
use Prim.Native.Nat.{ℕ, suc, ◌<◌, ◌≤◌}
use native.Mathlib.Nat.{le_refl}
use native.Mathlib.Omega.{arith}
use borrow.Author.Tests.{eqb-true, eqb-false}
use lib.Dec.{eqb}
use lib.ListN.{length, get_or, set}
use lib.Seq.{get_or-set_same, get_or-set_other}
use Rattle.newick_text.specs.Tree.{Tree, leaf, node, Row, none, some}
use Rattle.newick_text.specs.Table.{after, row_after, number_of, filled, row_filled}
use Rattle.newick_text.proofs.Filling.{filled-length, row-length}

-- ---- what a lookup finds: nothing, or a bracket's number and a length
pub data Found : Type 0 where
  missing : Found
  below : ℕ → List ℕ → Found

-- the first of two that is there
abbrev pub first : Found → Found → Found
first missing m = m
first (below v l) m = below v l

-- x where two numbers are the same
abbrev pub where_same : Bool → Found → Found
where_same true x = x
where_same false x = missing

-- it is there
abbrev pub There : Found → Type 0
There missing = ⊥
There (below v l) = Unit

-- the bracket's number, 0 where nothing is there
abbrev pub bracket_in : Found → ℕ
bracket_in missing = 0
bracket_in (below v l) = v

-- the entry, and what was there before where nothing is found
abbrev pub entry_in : {A : Type 0} → (ℕ → List ℕ → A) → Found → A → A
entry_in entry missing d = d
entry_in entry (below v l) d = entry v l

-- what stands above u in a tree whose inner vertices are numbered from k on
unfoldable mutual
  pub look : (List ℕ → ℕ) → Tree → ℕ → ℕ → Found
  look find (leaf n) k u = missing
  look find (node r) k u = row_look find r (row_after r k) k u

  pub row_look : (List ℕ → ℕ) → Row → ℕ → ℕ → ℕ → Found
  row_look find none v k u = missing
  row_look find (some t l r) v k u = first (where_same (eqb u (number_of find t k)) (below v l)) (first (row_look find r v (after t k) u) (look find t k u))

-- ---- numbers only rise
mutual
  unfolding after

  pub after-up : (t : Tree) (k : ℕ) → k ≤ after t k
  after-up (leaf n) k = le_refl k
  after-up (node r) k = omega (arith, row_up r k)

  pub row_up : (r : Row) (k : ℕ) → k ≤ row_after r k
  row_up none k = le_refl k
  row_up (some t l r) k = omega (arith, after-up t k, row_up r (after t k))

module _ {A : Type 0} (find : List ℕ → ℕ) (entry : ℕ → List ℕ → A) where
  -- ---- what stands in the table
  first_entry : (a b : Found) (d : A) → entry_in entry a (entry_in entry b d) ≡ entry_in entry (first a b) d
  first_entry missing b d = refl
  first_entry (below v l) b d = refl

  -- a store, as a lookup
  set-look : (p : List A) (i v : ℕ) (l : List ℕ) (u : ℕ) (d : A) → u < length p → get_or (set p i (entry v l)) u d ≡ entry_in entry (where_same (eqb u i) (below v l)) (get_or p u d)
  set-look p i v l u d b = go (eqb u i) refl
    where
      go : (t : Bool) → eqb u i ≡ t → get_or (set p i (entry v l)) u d ≡ entry_in entry (where_same t (below v l)) (get_or p u d)
      go true e =
          let s : u ≡ i = eqb-true u i e in
          ap (λ (x : ℕ). get_or (set p i (entry v l)) x d) s ∙ get_or-set_same p i (entry v l) d (omega arith)
      go false e = get_or-set_other p i u (entry v l) d (eqb-false u i e)

  mutual
    unfolding filled look

    pub filled-look : (t : Tree) (k : ℕ) (p : List A) (u : ℕ) (d : A) → u < length p → get_or (filled find entry t k p) u d ≡ entry_in entry (look find t k u) (get_or p u d)
    filled-look (leaf n) k p u d b = refl
    filled-look (node r) k p u d b = row-look r (row_after r k) k p u d b

    pub row-look : (r : Row) (v k : ℕ) (p : List A) (u : ℕ) (d : A) → u < length p → get_or (row_filled find entry r v k p) u d ≡ entry_in entry (row_look find r v k u) (get_or p u d)
    row-look none v k p u d b = refl
    row-look (some t l r) v k p u d b =
        let inner = filled-look t k p u d b in
        let rest = row-look r v (after t k) (filled find entry t k p) u d (omega (arith, filled-length find entry t k p)) in
        let here = row_look find r v (after t k) u in
        let same = where_same (eqb u (number_of find t k)) (below v l) in
        set-look (row_filled find entry r v (after t k) (filled find entry t k p)) (number_of find t k) v l u d (omega (arith, row-length find entry r v (after t k) (filled find entry t k p), filled-length find entry t k p))
        ∙ ap (entry_in entry same) (rest ∙ ap (entry_in entry here) inner ∙ first_entry here (look find t k u) (get_or p u d))
        ∙ first_entry same (first here (look find t k u)) (get_or p u d)

-- ---- the brackets in a tree are its own
abbrev pub In : ℕ → ℕ → Found → Type 0
In lo hi missing = Unit
In lo hi (below v l) = (lo ≤ v) × (v < hi)

first_in : (lo hi : ℕ) (a b : Found) → In lo hi a → In lo hi b → In lo hi (first a b)
first_in lo hi missing b x y = y
first_in lo hi (below v l) b x y = x

wider : (lo hi mo ho : ℕ) (x : Found) → mo ≤ lo → hi ≤ ho → In lo hi x → In mo ho x
wider lo hi mo ho missing l h e = tt
wider lo hi mo ho (below v m) l h e = (omega (arith, e.0), omega (arith, e.1))

where_in : (t : Bool) (lo v : ℕ) (l : List ℕ) → lo ≤ v → In lo (suc v) (where_same t (below v l))
where_in true lo v l h = (h, omega arith)
where_in false lo v l h = tt

module _ (find : List ℕ → ℕ) where
  mutual
    unfolding look after

    pub look_in : (t : Tree) (k u : ℕ) → In k (after t k) (look find t k u)
    look_in (leaf n) k u = tt
    look_in (node r) k u = row_in r (row_after r k) k u (le_refl (row_after r k))

    pub row_in : (r : Row) (v k u : ℕ) → row_after r k ≤ v → In k (suc v) (row_look find r v k u)
    row_in none v k u h = tt
    row_in (some t l r) v k u h =
        let a = after-up t k in
        let b = row_up r (after t k) in
        let here = row_look find r v (after t k) u in
        let rest = wider (after t k) (suc v) k (suc v) here a (le_refl (suc v)) (row_in r v (after t k) u h) in
        let inner = wider k (after t k) k (suc v) (look find t k u) (le_refl k) (omega arith) (look_in t k u) in
        first_in k (suc v) (where_same (eqb u (number_of find t k)) (below v l)) (first here (look find t k u)) (where_in (eqb u (number_of find t k)) k v l (omega arith))
        (first_in k (suc v) here (look find t k u) rest inner)
