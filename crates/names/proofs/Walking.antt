-- A walk over n names that lie within the bytes: name i begins at `at`, and the part that is lent of it is that name (`lent_is`).
use mathlib.Core.Path.{◌≡◌, sym, ap, ap₂, ◌∙◌}
use mathlib.Core.Bool.{Bool, true, false, not, ◌||◌}
use mathlib.Core.List.{List}
use Prim.Native.Nat.{ℕ, suc, ◌+◌, ◌-◌, ◌<◌, ◌≤◌}
use native.Mathlib.Decide.{ℕ_discrete}
use native.Mathlib.Numerals.{add-one}
use native.Mathlib.Omega.{arith}
use lib.Dec.{ltb}
use lib.ListN.{length, get_or, take, drop, length-drop}
use lib.Seq.{length-take-le}
use Rattle.exact.proofs.Decide.{by_cases}
use Rattle.verdict.specs.Table.{some, first}
use Rattle.verdict.proofs.Table.{some-yes, some-no, some_first, first-is, past_first}
use Rattle.digits.specs.Digits.{same}
use Rattle.digits.proofs.Comparing.{same-longer}
use Rattle.records.specs.Names.{name_start}
use Rattle.records.proofs.Names.{name-first, name-next, names_rise}
use Rattle.names.specs.Name.{is_name}
use Rattle.names.specs.Record.{name_of, name_out, names_out, place_of}

-- name i, one of n, ends before the last does
pub name-ends : (s : List ℕ) (from n i : ℕ) → i < n → name_start s from i + 1 + get_or s (name_start s from i) 0 ≤ name_start s from n
name-ends s from n i h = by_cases (ℕ_discrete (suc i) n)
    (λ e. omega (arith, name-next s from i, ap (name_start s from) e))
    (λ e. omega (arith, name-next s from i, names_rise s from (suc i) n (omega arith)))

pub record At (s : List ℕ) (from n at i : ℕ) : Type 0 where
  pub place : at ≡ name_start s from i
  pub few : i ≤ n

module _ (s : List ℕ) (from n : ℕ) where
  pub at_first_lem : At s from n from 0
  at_first_lem = record { place = sym (name-first s from); few = omega arith }

  module _ {at i : ℕ} (w : At s from n at i) where
    pub at_next : i < n → At s from n (at + 1 + get_or s at 0) (i + 1)
    at_next h = record {
      place = ap (λ (a : ℕ). a + 1 + get_or s a 0) w.place ∙ sym (name-next s from i) ∙ ap (name_start s from) (sym (add-one i));
      few = omega arith;
    }

    pub at-within : name_start s from n ≤ length s → i < n → at + 1 + get_or s at 0 ≤ length s
    at-within l h = omega (arith, ap (λ (a : ℕ). a + 1 + get_or s a 0) w.place, name-ends s from n i h)

pub name-within : (s : List ℕ) (from i at : ℕ) → at ≡ name_start s from i → name_start s from (i + 1) ≤ length s → at + 1 + get_or s at 0 ≤ length s
name-within s from i at e h = omega (arith, ap (λ (a : ℕ). a + 1 + get_or s a 0) e, name-next s from i, ap (name_start s from) (add-one i))

-- the part of the bytes that is lent for name i
pub lent_is : (s : List ℕ) (from i at : ℕ) → at ≡ name_start s from i → take (at + 1 + get_or s at 0 - (at + 1)) (drop (at + 1) s) ≡ name_of s from i
unfolding name_of
lent_is s from i at e =
    let size : at + 1 + get_or s at 0 - (at + 1) ≡ get_or s at 0 = omega arith in
    ap (λ (k : ℕ). take k (drop (at + 1) s)) size ∙ ap (λ (a : ℕ). take (get_or s a 0) (drop (a + 1) s)) e

-- a name that ends within the bytes has as many as its length byte says
pub size_is : (s : List ℕ) (from i : ℕ) → name_start s from i + 1 + get_or s (name_start s from i) 0 ≤ length s → length (name_of s from i) ≡ get_or s (name_start s from i) 0
unfolding name_of
size_is s from i h = length-take-le (get_or s (name_start s from i) 0) (drop (name_start s from i + 1) s) (simp length-drop (omega (arith, h)))

-- a text of another length is not that name
pub size-apart : (s : List ℕ) (from i at : ℕ) → at ≡ name_start s from i → at + 1 + get_or s at 0 ≤ length s → (l : List ℕ) → (get_or s at 0 ≡ length l → ⊥) → same (name_of s from i) l ≡ false
size-apart s from i at e h l n =
    let size = size_is s from i (omega (arith, ap (λ (a : ℕ). a + 1 + get_or s a 0) e)) in
    sym (same-longer (name_of s from i) l (λ f. n (ap (λ (a : ℕ). get_or s a 0) e ∙ sym size ∙ f)))

-- ---- the strain that has a name
module _ (s : List ℕ) (from n : ℕ) (l : List ℕ) where
  pub place_found : (i : ℕ) → i < n → same (name_of s from i) l ≡ true → ((k : ℕ) → k < i → same (name_of s from k) l ≡ false) → i ≡ place_of s from n l
  unfolding place_of
  place_found i h e f = sym (first-is n (λ j. same (name_of s from j) l) i h e f)

  pub place_none : ((k : ℕ) → k < n → same (name_of s from k) l ≡ false) → n ≡ place_of s from n l
  unfolding place_of
  place_none f = sym (past_first n (λ j. same (name_of s from j) l) f)

-- ---- 28
-- one name: by its form, and by whether a strain before it has it
module _ (s : List ℕ) (from i : ℕ) (l : List ℕ) (e : l ≡ name_of s from i) where
  pub out_unformed : is_name l ≡ false → true ≡ name_out s from i
  out_unformed f = sym (ap (λ (b : Bool). not b || some i (λ j. same (name_of s from j) (name_of s from i))) (ap is_name (sym e) ∙ f))

  pub out-new : is_name l ≡ true → some i (λ j. same (name_of s from j) (name_of s from i)) ≡ false → false ≡ name_out s from i
  out-new f g = sym (ap₂ (λ (b c : Bool). not b || c) (ap is_name (sym e) ∙ f) g)

  pub out_repeated : is_name l ≡ true → (k : ℕ) → k ≡ place_of s from i l → ltb k i ≡ name_out s from i
  unfolding place_of
  out_repeated f k g =
      ap (λ (x : ℕ). ltb x i) (g ∙ ap (λ (x : List ℕ). first i (λ j. same (name_of s from j) x)) e) ∙ sym (some_first i (λ j. same (name_of s from j) (name_of s from i)))
      ∙ sym (ap (λ (b : Bool). not b || some i (λ j. same (name_of s from j) (name_of s from i))) (ap is_name (sym e) ∙ f))

-- all names
module _ (s : List ℕ) (from n : ℕ) where
  pub out-found : (i : ℕ) → i < n → name_out s from i ≡ true → true ≡ names_out s from n
  unfolding names_out
  out-found i h e = sym (some-yes n (name_out s from) i h e)

  pub out_none : ((i : ℕ) → i < n → name_out s from i ≡ false) → false ≡ names_out s from n
  unfolding names_out
  out_none f = sym (some-no n (name_out s from) f)
