-- The tables of a tree: what filling keeps (`filled-length`), that it goes along with every map of tables that goes along with setting an
-- entry (`filled-map`), that entries count only where they are set (`filled_cong`), and that a strain's entry is set exactly where its name is
-- used (`row-marks`).
use mathlib.Core.Path.{◌≡◌, refl, sym, ◌∙◌, ap, ap₂}
use mathlib.Core.Bool.{cond}
use mathlib.Core.List.{List, [], ◌∷◌, map}
use Prim.Native.Nat.{ℕ, zero, suc, ◌+◌, ◌≤◌, ◌<◌}
use native.Mathlib.Decide.{dec_lt, ℕ_discrete}
use native.Mathlib.Omega.{arith}
use borrow.Author.Tests.{eq-eqb, ne_eqb}
use lib.Dec.{eqb}
use lib.ListN.{length, get_or, set, take, length-set, length-take}
use lib.Seq.{get_or-set_same, get_or-set_other, take-set-le, take-set-lt, set_out}
use Rattle.exact.proofs.Decide.{by_cases}
use Rattle.newick_text.specs.Tree.{Tree, leaf, node, Row, none, some, tally, row_tally, leaves_with}
use Rattle.newick_text.specs.Table.{after, row_after, number_of, filled, row_filled}
use Rattle.newick_text.proofs.Counting.{tree-number, rows-number}

-- ---- sizes
module _ {A : Type 0} (find : List ℕ → ℕ) (entry : ℕ → List ℕ → A) where
  mutual
    unfolding filled

    pub filled-length : (t : Tree) (k : ℕ) (p : List A) → length (filled find entry t k p) ≡ length p
    filled-length (leaf n) k p = refl
    filled-length (node r) k p = row-length r (row_after r k) k p

    pub row-length : (r : Row) (v k : ℕ) (p : List A) → length (row_filled find entry r v k p) ≡ length p
    row-length none v k p = refl
    row-length (some t l r) v k p =
        let a = filled-length t k p in
        let b = row-length r v (after t k) (filled find entry t k p) in
        length-set (row_filled find entry r v (after t k) (filled find entry t k p)) (number_of find t k) (entry v l) ∙ b ∙ a

-- ---- a map of tables h that goes along with setting an entry
module _ {A B : Type 0} (find : List ℕ → ℕ) (entry : ℕ → List ℕ → A) (f : A → B) (h : List A → List B)
    (along : (p : List A) (i : ℕ) (x : A) → h (set p i x) ≡ set (h p) i (f x)) where
  mutual
    unfolding filled

    pub filled-map : (t : Tree) (k : ℕ) (p : List A) → h (filled find entry t k p) ≡ filled find (λ v l. f (entry v l)) t k (h p)
    filled-map (leaf n) k p = refl
    filled-map (node r) k p = row-map r (row_after r k) k p

    pub row-map : (r : Row) (v k : ℕ) (p : List A) → h (row_filled find entry r v k p) ≡ row_filled find (λ v l. f (entry v l)) r v k (h p)
    row-map none v k p = refl
    row-map (some t l r) v k p =
        let a = filled-map t k p in
        let b = row-map r v (after t k) (filled find entry t k p) in
        along (row_filled find entry r v (after t k) (filled find entry t k p)) (number_of find t k) (entry v l)
        ∙ ap (λ (q : List B). set q (number_of find t k) (f (entry v l))) (b ∙ ap (row_filled find (λ v l. f (entry v l)) r v (after t k)) a)

-- the first entries of a table
pub take-along : {A : Type 0} (K : ℕ) (p : List A) (i : ℕ) (x : A) → take K (set p i x) ≡ set (take K p) i x
take-along K p i x = by_cases (dec_lt i K)
    (λ l. take-set-lt K p i x l)
    (λ g. take-set-le K p i x (omega arith) ∙ sym (set_out (take K p) i x (omega (arith, length-take K p))))

-- every entry changed alike
pub map-along : {A B : Type 0} (f : A → B) (p : List A) (i : ℕ) (x : A) → map f (set p i x) ≡ set (map f p) i (f x)
map-along f [] i x = refl
map-along f (y ∷ ys) zero x = refl
map-along f (y ∷ ys) (suc i) x = ap (λ (q : List _). f y ∷ q) (map-along f ys i x)

-- ---- entries that agree for every bracket up to M
module _ {A : Type 0} (find : List ℕ → ℕ) (e g : ℕ → List ℕ → A) (M : ℕ) (same : (v : ℕ) (l : List ℕ) → v ≤ M → e v l ≡ g v l) where
  mutual
    unfolding filled after

    pub filled_cong : (t : Tree) (k : ℕ) (p : List A) → after t k ≤ suc M → filled find e t k p ≡ filled find g t k p
    filled_cong (leaf n) k p h = refl
    filled_cong (node r) k p h = row_cong r (row_after r k) k p (omega arith) (omega arith)

    pub row_cong : (r : Row) (v k : ℕ) (p : List A) → v ≤ M → row_after r k ≤ M → row_filled find e r v k p ≡ row_filled find g r v k p
    row_cong none v k p b h = refl
    row_cong (some t l r) v k p b h =
        let i = filled_cong t k p (omega (arith, h, rows-number r (after t k))) in
        let j = row_cong r v (after t k) (filled find e t k p) b h in
        ap₂ (λ (q : List A) (x : A). set q (number_of find t k) x) (j ∙ ap (row_filled find g r v (after t k)) i) (same v l b)

-- ---- where an entry is set: it is not 0 where it was not before or a leaf below is i
pub record Marks (a b : ℕ) : Type 0 where
  pub yes : 1 ≤ a → 1 ≤ b
  pub no : a ≡ 0 → b ≡ 0

joined : (a b c d e : ℕ) → Marks (a + b) d → Marks (d + c) e → Marks (a + c + b) e
joined a b c d e m n = record {
  yes = λ w. by_cases (dec_lt 0 (a + b)) (λ h. n.yes (omega (arith, m.yes h))) (λ h. n.yes (omega (arith, w, h)));
  no = λ w. n.no (omega (arith, w, m.no (omega (arith, w))));
}

module _ (find : List ℕ → ℕ) (entry : ℕ → List ℕ → ℕ) (some-entry : (v : ℕ) (l : List ℕ) → 1 ≤ v → 1 ≤ entry v l) (i : ℕ) where
  abbrev uses : Tree → ℕ
  uses t = leaves_with (λ n. eqb (find n) i) t

  abbrev row_uses : Row → ℕ
  row_uses r = row_tally (λ n. cond (eqb (find n) i) 1 0) (λ _. 0) 0 r

  -- the uses below a vertex, and the vertex itself
  abbrev below : Tree → ℕ
  below (leaf n) = 0
  below (node r) = row_uses r

  -- setting the vertex's own entry
  own : (t : Tree) (k : ℕ) (q : List ℕ) (x a : ℕ) → i < k → i < length q → 1 ≤ x → Marks (a + below t) (get_or q i 0) → Marks (a + uses t) (get_or (set q (number_of find t k) x) i 0)
  unfolding tally number_of
  own (leaf n) k q x a h b s m = by_cases (ℕ_discrete (find n) i)
      (λ e. let z : get_or (set q (find n) x) i 0 ≡ x = ap (λ (j : ℕ). get_or (set q j x) i 0) e ∙ get_or-set_same q i x 0 b in
      let y : ◌≡◌ {A = ℕ} (cond (eqb (find n) i) 1 0) 1 = rw (eq-eqb (find n) i e) in
      record { yes = λ _. omega (arith, z, s); no = λ w. absurd (omega (arith, w, y)) })
      (λ d. let z : get_or (set q (find n) x) i 0 ≡ get_or q i 0 = get_or-set_other q (find n) i x 0 (λ w. d (sym w)) in
      let y : ◌≡◌ {A = ℕ} (cond (eqb (find n) i) 1 0) 0 = rw (ne_eqb (find n) i d) in
      record { yes = λ w. omega (arith, z, m.yes (omega (arith, w, y))); no = λ w. omega (arith, z, m.no (omega (arith, w, y))) })
  own (node r) k q x a h b s m =
      let z : get_or (set q (row_after r k) x) i 0 ≡ get_or q i 0 = get_or-set_other q (row_after r k) i x 0 (λ w. omega (arith, w, rows-number r k)) in
      record { yes = λ w. omega (arith, z, m.yes (omega (arith, w))); no = λ w. omega (arith, z, m.no (omega (arith, w))) }

  mutual
    unfolding filled tally

    tree-marks : (t : Tree) (k : ℕ) (p : List ℕ) → i < k → i < length p → Marks (get_or p i 0 + below t) (get_or (filled find entry t k p) i 0)
    tree-marks (leaf n) k p h b = record { yes = λ w. omega (arith, w); no = λ w. omega (arith, w) }
    tree-marks (node r) k p h b = row-marks r (row_after r k) k p (omega (arith, rows-number r k)) h b

    pub row-marks : (r : Row) (v k : ℕ) (p : List ℕ) → 1 ≤ v → i < k → i < length p → Marks (get_or p i 0 + row_uses r) (get_or (row_filled find entry r v k p) i 0)
    row-marks none v k p s h b = record { yes = λ w. omega (arith, w); no = λ w. omega (arith, w) }
    row-marks (some t l r) v k p s h b =
        let q = filled find entry t k p in
        let x = tree-marks t k p h b in
        let y = row-marks r v (after t k) q s (omega (arith, h, tree-number t k)) (omega (arith, b, filled-length find entry t k p)) in
        let m : Marks (get_or p i 0 + row_uses r + below t) (get_or (row_filled find entry r v (after t k) q) i 0) = joined (get_or p i 0) (below t) (row_uses r) (get_or q i 0) _ x y in
        let o = own t k (row_filled find entry r v (after t k) q) (entry v l) (get_or p i 0 + row_uses r) h (omega (arith, b, filled-length find entry t k p, row-length find entry r v (after t k) q)) (some-entry v l s) m in
        record { yes = λ w. o.yes (omega (arith, w)); no = λ w. o.no (omega (arith, w)) }
