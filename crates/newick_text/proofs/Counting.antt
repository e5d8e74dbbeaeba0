-- Leaves counted without reading: a text of the form has a comma less than leaves (`commas`); and numbers rise by one with each bracket
-- (`rows-number`).
use mathlib.Core.Path.{◌≡◌, refl, sym, ◌∙◌, ap}
use mathlib.Core.Bool.{Bool, true, false, cond, true≢false}
use mathlib.Core.List.{List, [], ◌∷◌, ◌++◌}
use Prim.Native.Nat.{ℕ, suc, ◌+◌, ◌-◌}
use native.Mathlib.Omega.{arith}
use borrow.Author.Tests.{eqb-true, eq-eqb, ne_eqb}
use lib.Dec.{eqb}
use lib.ListN.{length, take, drop, length-drop, take-append-drop}
use lib.Seq.{drop-cons, drop-drop, length-take-le}
use native.Mathlib.Numerals.{add-one}
use Rattle.digits.specs.Digits.{run, is_digit}
use Rattle.digits.proofs.Reading.{both_true}
use Rattle.names.specs.Name.{is_name_byte, is_name}
use Rattle.newick_text.specs.Length.{sign_size, whole_size, point_at, length_size, length_there, is_length}
use Rattle.newick_text.specs.Tree.{Tree, leaf, node, Row, none, some, text_then, row_then, tally, row_tally, leaves_of, brackets_of, Some, Formed, RowFormed, Text}
use Rattle.newick_text.specs.Table.{after, row_after}
use Rattle.newick_text.specs.Count.{occurs}
use Rattle.newick_text.proofs.Runs.{run_take, run-within}
use Rattle.newick_text.proofs.Lengths.{told}
use Rattle.newick_text.proofs.Unique.{name-told}

-- ---- a byte in a text
module _ (b : ℕ) where
  pub occurs-append : (l k : List ℕ) → occurs b (l ++ k) ≡ occurs b l + occurs b k
  unfolding occurs
  occurs-append [] k = omega arith
  occurs-append (x ∷ xs) k = let ih = occurs-append xs k in omega (arith, ih)

  -- another byte before it
  occurs-other : (x : ℕ) (l : List ℕ) → (x ≡ b → ⊥) → occurs b (x ∷ l) ≡ occurs b l
  unfolding occurs
  occurs-other x l h = rw (ne_eqb x b h) (omega arith)

  -- it is of another kind than all of them
  occurs-kind : (p : ℕ → Bool) (l : List ℕ) → p b ≡ false → run p l ≡ length l → occurs b l ≡ 0
  unfolding occurs run
  occurs-kind p [] h e = refl
  occurs-kind p (x ∷ xs) h e = let ih = occurs-kind p xs h in go (p x) refl e ih
    where
      go : (q : Bool) → p x ≡ q → cond q (suc (run p xs)) 0 ≡ suc (length xs) → (run p xs ≡ length xs → occurs b xs ≡ 0) → cond (eqb x b) 1 0 + occurs b xs ≡ 0
      go true f g ih = rw (ne_eqb x b (λ same. true≢false (sym f ∙ ap p same ∙ h))) (omega (arith, ih (omega (arith, g))))
      go false f g ih = absurd (omega (arith, g))

  occurs-run : (p : ℕ → Bool) (l : List ℕ) → p b ≡ false → occurs b (take (run p l) l) ≡ 0
  occurs-run p l h = occurs-kind p (take (run p l) l) h (run_take p l ∙ sym (length-take-le (run p l) l (run-within p l)))

  occurs-split : (n : ℕ) (l : List ℕ) → occurs b l ≡ occurs b (take n l) + occurs b (drop n l)
  occurs-split n l = sym (ap (occurs b) (take-append-drop n l)) ∙ occurs-append (take n l) (drop n l)

  module _ (digitless : is_digit b ≡ false) (minusless : 45 ≡ b → ⊥) (pointless : 46 ≡ b → ⊥) where
    occurs-sign : (l : List ℕ) → occurs b (take (sign_size l) l) ≡ 0
    unfolding occurs
    occurs-sign [] = refl
    occurs-sign (x ∷ xs) = go (eqb x 45) refl
      where
        go : (q : Bool) → eqb x 45 ≡ q → occurs b (take (cond q 1 0) (x ∷ xs)) ≡ 0
        go true e = let same : x ≡ 45 = eqb-true x 45 e in rw (ne_eqb x b (λ z. minusless (sym same ∙ z)))
        go false e = refl

    -- no length has it
    length-clear : (l : List ℕ) → is_length l ≡ true → occurs b l ≡ 0
    unfolding is_length length_size
    length-clear l h =
        let p = both_true (length_there l) (eqb (length l) (length_size l)) h in
        let t = told l p.0 in
        let long : length l ≡ point_at l + 4 = eqb-true _ _ p.1 in
        let d = drop (sign_size l) l in
        let e = drop (point_at l + 1) l in
        let behind : drop (whole_size l) d ≡ 46 ∷ e =
        drop-drop (whole_size l) (sign_size l) l ∙ drop-cons l (point_at l) 0 (omega arith) ∙ ap (λ (x : ℕ). x ∷ drop (suc (point_at l)) l) t.dot ∙ ap (λ (n : ℕ). 46 ∷ drop n l) (sym (add-one (point_at l))) in
        let z : occurs b e ≡ 0 = occurs-kind is_digit e digitless (t.part ∙ sym (length-drop (point_at l + 1) l ∙ omega arith)) in
        let y : occurs b (drop (whole_size l) d) ≡ 0 = ap (occurs b) behind ∙ occurs-other 46 e pointless ∙ z in
        omega (arith, occurs-split (sign_size l) l, occurs-sign l, occurs-split (whole_size l) d, occurs-run is_digit d digitless, y)

  name-clear : (n : List ℕ) → is_name_byte b ≡ false → is_name n ≡ true → occurs b n ≡ 0
  name-clear n h i = occurs-kind is_name_byte n h (name-told n i).all

name-comma : is_name_byte 44 ≡ false
unfolding is_name_byte
name-comma = refl

-- behind a child: a colon, its length, and the rest
behind-comma : (l k : List ℕ) → is_length l ≡ true → occurs 44 (58 ∷ (l ++ k)) ≡ occurs 44 k
behind-comma l k h = occurs-other 44 58 (l ++ k) (λ e. omega (arith, e)) ∙ occurs-append 44 l k ∙ omega (arith, length-clear 44 refl (λ e. omega (arith, e)) (λ e. omega (arith, e)) l h)

-- leaves and brackets among children
abbrev row_leaves : Row → ℕ
row_leaves r = row_tally (λ _. 1) (λ _. 0) 0 r

abbrev pub row_brackets : Row → ℕ
row_brackets r = row_tally (λ _. 0) (λ _. 0) 1 r

-- x where there is a child
abbrev lead-of : Row → ℕ → ℕ
lead-of none x = 0
lead-of (some t l r) x = x

lead-some : (r : Row) (x : ℕ) → Some r → lead-of r x ≡ x
lead-some none x h = absurd h
lead-some (some t l r) x h = refl

lead_zero : (r : Row) → lead-of r 0 ≡ 0
lead_zero none = refl
lead_zero (some t l r) = refl

-- what stands before a text
one_more : (b lead : ℕ) (k : List ℕ) → occurs b (lead ∷ k) ≡ occurs b (lead ∷ []) + occurs b k
one_more b lead k = occurs-append b (lead ∷ []) k

itself : (b : ℕ) → occurs b (b ∷ []) ≡ 1
unfolding occurs
itself b = rw (eq-eqb b b refl)

other : (b x : ℕ) → (x ≡ b → ⊥) → occurs b (x ∷ []) ≡ 0
unfolding occurs
other b x h = rw (ne_eqb x b h)

-- ---- commas: x of them in the lead
mutual
  unfolding text_then tally Formed

  tree-commas : (t : Tree) (m : ℕ) (k : List ℕ) → Formed t m → occurs 44 (text_then t k) + 1 ≡ leaves_of t + occurs 44 k
  tree-commas (leaf n) m k f = omega (arith, occurs-append 44 n k, name-clear 44 n name-comma f)
  tree-commas (node r) m k f =
      let a = row-commas r (m - 1) 40 0 k (other 44 40 (λ e. omega (arith, e))) f.2 in
      omega (arith, a, lead-some r 1 f.1, lead_zero r)

  row-commas : (r : Row) (m lead x : ℕ) (k : List ℕ) → occurs 44 (lead ∷ []) ≡ x → RowFormed r m → occurs 44 (row_then r lead k) + lead-of r 1 ≡ lead-of r x + row_leaves r + occurs 44 k
  row-commas none m lead x k e f = omega (arith, one_more 44 41 k, other 44 41 (λ z. omega (arith, z)))
  row-commas (some t l r) m lead x k e f =
      let K : List ℕ = 58 ∷ (l ++ row_then r 44 k) in
      let a = tree-commas t m K f.0 in
      let b = row-commas r m 44 1 k (itself 44) f.2 in
      omega (arith, one_more 44 lead (text_then t K), e, a, behind-comma l (row_then r 44 k) f.1, b)

-- a whole text
pub commas : (s : List ℕ) (r : Row) → Text s r → leaves_of (node r) ≡ occurs 44 s + 1
unfolding text_then
commas s r x = omega (arith, ap (occurs 44) x.text, tree-commas (node r) _ (59 ∷ []) x.formed, other 44 59 (λ e. omega (arith, e)))

-- ---- numbers
mutual
  unfolding tally after

  pub tree-number : (t : Tree) (k : ℕ) → after t k ≡ k + brackets_of t
  tree-number (leaf n) k = omega arith
  tree-number (node r) k = let a = rows-number r k in omega (arith, a)

  pub rows-number : (r : Row) (k : ℕ) → row_after r k ≡ k + row_brackets r
  rows-number none k = omega arith
  rows-number (some t l r) k = let a = tree-number t k in let b = rows-number r (after t k) in omega (arith, a, b)
