-- A text has as many bytes as `size_of` says, and what stands behind it may be cut in two.
use mathlib.Core.Path.{◌≡◌, refl, sym, ◌∙◌, ap}
use mathlib.Core.List.{List, ◌∷◌, ◌++◌, append_assoc}
use Prim.Native.Nat.{ℕ, ◌+◌}
use native.Mathlib.Omega.{arith}
use lib.ListN.{length, length-append}
use Rattle.newick_text.specs.Tree.{Tree, leaf, node, Row, none, some, text_then, row_then, tally, size_of, row_size}

mutual
  unfolding text_then tally

  pub text-size : (t : Tree) (k : List ℕ) → length (text_then t k) ≡ size_of t + length k
  text-size (leaf n) k = length-append n k
  text-size (node r) k = row-size r 40 k

  pub row-size : (r : Row) (lead : ℕ) (k : List ℕ) → length (row_then r lead k) ≡ row_size r + length k
  row-size none lead k = omega arith
  row-size (some t l r) lead k =
      let whole = text-size t (58 ∷ (l ++ row_then r 44 k)) in
      let edge = length-append l (row_then r 44 k) in
      let rest = row-size r 44 k in
      omega (arith, whole, edge, rest)

mutual
  unfolding text_then

  pub text-append : (t : Tree) (k j : List ℕ) → text_then t (k ++ j) ≡ text_then t k ++ j
  text-append (leaf n) k j = sym (append_assoc n k j)
  text-append (node r) k j = row-append r 40 k j

  pub row-append : (r : Row) (lead : ℕ) (k j : List ℕ) → row_then r lead (k ++ j) ≡ row_then r lead k ++ j
  row-append none lead k j = refl
  row-append (some t l r) lead k j =
      ap (λ (x : List ℕ). lead ∷ text_then t (58 ∷ (l ++ x))) (row-append r 44 k j)
      ∙ ap (λ (x : List ℕ). lead ∷ text_then t (58 ∷ x)) (sym (append_assoc l (row_then r 44 k) j))
      ∙ ap (λ (x : List ℕ). lead ∷ x) (text-append t (58 ∷ (l ++ row_then r 44 k)) j)
