-- A text is read in one way only: a name ends at its colon, a length where its digits end, and so where the texts of two trees, each with
-- something behind it, are the same bytes, the trees are the same and so is what is behind them.
use mathlib.Core.Path.{◌≡◌, refl, sym, ◌∙◌, ap}
use mathlib.Core.Bool.{true, false}
use mathlib.Core.List.{List, [], ◌∷◌, ◌++◌}
use Prim.Native.Nat.{ℕ, ◌-◌, ◌≤◌}
use native.Mathlib.Omega.{arith}
use borrow.Author.Tests.{eqb-true, leb-true}
use lib.Dec.{leb}
use lib.ListN.{length}
use Rattle.digits.specs.Digits.{run, is_digit}
use Rattle.digits.proofs.Reading.{both_true}
use Rattle.names.specs.Name.{max_name, is_name_byte, is_name}
use Rattle.newick_text.specs.Tree.{Tree, leaf, node, Row, none, some, text_then, row_then, Formed, RowFormed, Text}
use Rattle.newick_text.proofs.Runs.{run_none, run-append, append-same}
use Rattle.newick_text.proofs.Lengths.{same_length}

-- ---- names
-- what the test of a name tells
pub record NameTold (n : List ℕ) : Type 0 where
  pub some_byte : 1 ≤ length n
  pub few : length n ≤ max_name
  pub all : run is_name_byte n ≡ length n

pub name-told : (n : List ℕ) → is_name n ≡ true → NameTold n
unfolding is_name
name-told n h =
    let a = both_true (leb 1 (length n)) _ h in
    let b = both_true (leb (length n) max_name) _ a.1 in
    record { some_byte = leb-true 1 (length n) a.0; few = leb-true (length n) max_name b.0; all = eqb-true _ _ b.1 }

-- a name ends where no byte of a name follows
pub name-ends : (n k : List ℕ) → is_name n ≡ true → run is_name_byte k ≡ 0 → run is_name_byte (n ++ k) ≡ length n
name-ends n k h e = run-append is_name_byte n k e ∙ (name-told n h).all

no-colon : is_name_byte 58 ≡ false
unfolding is_name_byte
no-colon = refl

no_semicolon : is_name_byte 59 ≡ false
unfolding is_name_byte
no_semicolon = refl

no_open : is_name_byte 40 ≡ false
unfolding is_name_byte
no_open = refl

-- a colon ends a name
pub colon-ends : (k : List ℕ) → run is_name_byte (58 ∷ k) ≡ 0
colon-ends k = run_none is_name_byte (58 ∷ k) no-colon

-- and so does the semicolon behind the root
pub semicolon_ends : run is_name_byte (59 ∷ []) ≡ 0
semicolon_ends = run_none is_name_byte (59 ∷ []) no_semicolon

pub name-colon : (n k : List ℕ) → is_name n ≡ true → run is_name_byte (n ++ (58 ∷ k)) ≡ length n
name-colon n k h = name-ends n (58 ∷ k) h (colon-ends k)

pub same_name : (n m k l : List ℕ) → is_name n ≡ true → is_name m ≡ true → run is_name_byte k ≡ 0 → run is_name_byte l ≡ 0 → n ++ k ≡ m ++ l → (n ≡ m) × (k ≡ l)
same_name n m k l h i p q e = append-same n m k l (sym (name-ends n k h p) ∙ ap (run is_name_byte) e ∙ name-ends m l i q) e

-- no name begins with a bracket
pub no_bracket : (n k l : List ℕ) → is_name n ≡ true → n ++ k ≡ 40 ∷ l → ⊥
unfolding run
no_bracket [] k l h e = let t = name-told [] h in let z : 1 ≤ 0 = t.some_byte in omega arith
no_bracket (x ∷ xs) k l h e =
    let b : 40 ≡ x = cc in
    let y : is_name_byte x ≡ false = sym (ap is_name_byte b) ∙ no_open in
    let t = name-told (x ∷ xs) h in
    let z : 0 ≡ length (x ∷ xs) = sym (run_none is_name_byte (x ∷ xs) y) ∙ t.all in
    omega (arith, z)

-- the text of a bracket begins with one
row_bracket : (t : Tree) (m : List ℕ) (r : Row) (k n l : List ℕ) → is_name n ≡ true → n ++ l ≡ row_then (some t m r) 40 k → ⊥
unfolding row_then
row_bracket t m r k n l h e = no_bracket n l _ h e

-- no digit begins what follows a length
pub row-stops : (r : Row) (k : List ℕ) → run is_digit (row_then r 44 k) ≡ 0
unfolding row_then run
row-stops none k = refl
row-stops (some t l r) k = refl

-- ---- trees and rows
mutual
  unfolding text_then Formed

  pub same-tree : (t u : Tree) (m n : ℕ) (k l : List ℕ) → Formed t m → Formed u n → run is_name_byte k ≡ 0 → run is_name_byte l ≡ 0 → text_then t k ≡ text_then u l → (t ≡ u) × (k ≡ l)
  same-tree (leaf a) (leaf b) m n k l f g p q e = let h = same_name a b k l f g p q e in (ap leaf h.0, h.1)
  same-tree (leaf a) (node none) m n k l f g p q e = absurd g.1
  same-tree (leaf a) (node (some u c r)) m n k l f g p q e = absurd (row_bracket u c r l a k f e)
  same-tree (node none) (leaf b) m n k l f g p q e = absurd f.1
  same-tree (node (some t c r)) (leaf b) m n k l f g p q e = absurd (row_bracket t c r k b l g (sym e))
  same-tree (node r) (node x) m n k l f g p q e =
      let h = same_row r x (m - 1) (n - 1) 40 k l f.2 g.2 (λ z. omega (arith, z)) e in
      (ap node h.0, h.1)

  pub same_row : (r q : Row) (m n lead : ℕ) (k l : List ℕ) → RowFormed r m → RowFormed q n → (lead ≡ 41 → ⊥) → row_then r lead k ≡ row_then q lead l → (r ≡ q) × (k ≡ l)
  same_row none none m n lead k l f g d e = (refl, cc)
  same_row none (some u b q) m n lead k l f g d e = absurd (d (cc))
  same_row (some t a r) none m n lead k l f g d e = absurd (d (cc))
  same_row (some t a r) (some u b q) m n lead k l f g d e =
      let h = same-tree t u m n (58 ∷ (a ++ row_then r 44 k)) (58 ∷ (b ++ row_then q 44 l)) f.0 g.0 (colon-ends _) (colon-ends _) (cc) in
      let z = h.1 in
      let v : a ++ row_then r 44 k ≡ b ++ row_then q 44 l = cc in
      let i = append-same a b (row_then r 44 k) (row_then q 44 l) (same_length a b (row_then r 44 k) (row_then q 44 l) f.1 g.1 (row-stops r k) (row-stops q l) v) v in
      let j = same_row r q m n 44 k l f.2 g.2 (λ z. omega (arith, z)) i.1 in
      let x = h.0 in
      let y = i.0 in
      let w = j.0 in
      (cc, j.1)

-- a text of the form has one row
pub one-row : (s : List ℕ) (r q : Row) → Text s r → Text s q → r ≡ q
unfolding Formed
one-row s r q a b = (same_row r q _ _ 40 _ _ a.formed.2 b.formed.2 (λ z. omega (arith, z)) (sym a.text ∙ b.text)).0
