-- Two texts compared: byte by byte (`same_is`), by their lengths (`same-longer`), and what the answer tells (`same_self`, `same_list_lem`).
use mathlib.Core.Path.{◌≡◌, refl, sym, ◌∙◌, ap, ap₂}
use mathlib.Core.Bool.{Bool, true, false, ◌&&◌, true≢false}
use mathlib.Core.List.{List, [], ◌∷◌}
use Prim.Native.Nat.{ℕ, suc, ◌+◌, ◌≤◌, ◌<◌}
use native.Mathlib.Numerals.{add-one}
use borrow.Author.Tests.{eq-eqb, ne_eqb, eqb-true}
use lib.Dec.{eqb}
use lib.Pointwise.{pointwise}
use lib.ListN.{length, get_or, drop, drop_of_length-le}
use lib.Seq.{drop-cons}
use Rattle.digits.specs.Digits.{same}
use Rattle.digits.proofs.Reading.{both_true}

-- texts of different lengths are not the same
pub same-longer : (a b : List ℕ) → (length a ≡ length b → ⊥) → false ≡ same a b
unfolding same
same-longer [] [] n = absurd (n refl)
same-longer [] (y ∷ ys) n = refl
same-longer (x ∷ xs) [] n = refl
same-longer (x ∷ xs) (y ∷ ys) n = let ih = same-longer xs ys (λ e. n (ap suc e)) in sym (ap (◌&&◌ (eqb x y)) (sym ih) ∙ and_no (eqb x y))
  where
    and_no : (q : Bool) → (q && false) ≡ false
    and_no true = refl
    and_no false = refl

-- the library compares byte by byte
pub same_is : (a b : List ℕ) → pointwise eqb a b ≡ same a b
unfolding same
same_is [] [] = refl
same_is [] (y ∷ ys) = refl
same_is (x ∷ xs) [] = refl
same_is (x ∷ xs) (y ∷ ys) = ap (◌&&◌ (eqb x y)) (same_is xs ys)

-- ---- what the answer tells
pub same_self : (xs : List ℕ) → same xs xs ≡ true
unfolding same
same_self [] = refl
same_self (x ∷ xs) = rw (eq-eqb x x refl, same_self xs)

pub same_list_lem : (xs ys : List ℕ) → same xs ys ≡ true → xs ≡ ys
unfolding same
same_list_lem [] [] e = refl
same_list_lem [] (y ∷ ys) e = absurd (true≢false (sym e))
same_list_lem (x ∷ xs) [] e = absurd (true≢false (sym e))
same_list_lem (x ∷ xs) (y ∷ ys) e = let (h, k) = both_true (eqb x y) (same xs ys) e in
    ap₂ (λ (z : ℕ) (zs : List ℕ). z ∷ zs) (eqb-true x y h) (same_list_lem xs ys k)
