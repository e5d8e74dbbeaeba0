-- A strain put in at its key leaves every entry at or below what it was (`first-put`), and a strain found by the key of its name is the first that
-- has that name (`key_found`).
use mathlib.Core.Path.{◌≡◌, refl, sym, ap, ◌∙◌}
use mathlib.Core.Bool.{Bool, true, false}
use mathlib.Core.List.{List}
use Prim.Native.Nat.{ℕ, ◌+◌, ◌<◌, ◌≤◌}
use native.Mathlib.Decide.{ℕ_discrete}
use native.Mathlib.Omega.{arith}
use lib.ListN.{length, get_or, set, length-set}
use lib.Seq.{get_or-set_same, get_or-set_other}
use Rattle.exact.proofs.Decide.{by_cases}
use Rattle.digits.specs.Digits.{same}
use Rattle.digits.proofs.Comparing.{same_list_lem}
use Rattle.names.specs.Name.{keys, key_from}
use Rattle.names.specs.Record.{name_of, place_of}
use Rattle.names.proofs.Walking.{name-ends, place_found}
use Rattle.name_keys.specs.Keyed.{Firsts, Keyed}

module _ (s : List ℕ) (from : ℕ) where
  pub first-none : (t : List ℕ) → length t ≡ keys → Firsts s from 0 t
  first-none t e = record { size = e; low = λ j h. absurd (omega arith) }

  module _ (i : ℕ) (t : List ℕ) (w : Firsts s from i t) (key : ℕ) (e : key ≡ key_from 0 (name_of s from i)) where
    -- a strain before it has the key
    pub first-kept : get_or t key 0 ≤ i → Firsts s from (i + 1) t
    first-kept h = record {
      size = w.size;
      low = λ j l. by_cases (ℕ_discrete j i)
          (λ q. omega (arith, q, h, ap (λ (k : ℕ). get_or t k 0) (e ∙ ap (λ (k : ℕ). key_from 0 (name_of s from k)) (sym q))))
          (λ q. w.low j (omega (arith, l, q)));
    }

    -- none has
    pub first-put : key < keys → i < get_or t key 0 → Firsts s from (i + 1) (set t key i)
    first-put b h = record {
      size = length-set t key i ∙ w.size;
      low = λ j l. by_cases (ℕ_discrete (key_from 0 (name_of s from j)) key)
          (λ q. let at_key : get_or (set t key i) (key_from 0 (name_of s from j)) 0 ≡ i = ap (λ (k : ℕ). get_or (set t key i) k 0) q ∙ get_or-set_same t key i 0 (omega (arith, b, w.size)) in
          by_cases (ℕ_discrete j i) (λ r. omega (arith, at_key, r)) (λ r. absurd (omega (arith, w.low j (omega (arith, l, r)), ap (λ (k : ℕ). get_or t k 0) q, h, l, r))))
          (λ q. let kept = get_or-set_other t key (key_from 0 (name_of s from j)) i 0 q in
          by_cases (ℕ_discrete j i) (λ r. absurd (q (ap (λ (k : ℕ). key_from 0 (name_of s from k)) r ∙ sym e))) (λ r. omega (arith, kept, w.low j (omega (arith, l, r)))));
    }

-- the strain at the key of a name has it
module _ (s : List ℕ) (from n : ℕ) (t : List ℕ) (w : Firsts s from n t) (name : List ℕ) (i : ℕ) (e : i ≡ get_or t (key_from 0 name) 0) where
  before : (j : ℕ) → j < i → i < n → (b : Bool) → same (name_of s from j) name ≡ b → b ≡ false
  before j h l false q = refl
  before j h l true q = absurd (omega (arith, w.low j (omega (arith, h, l)), ap (λ (x : List ℕ). get_or t (key_from 0 x) 0) (same_list_lem (name_of s from j) name q), e, h))

  pub key_found : i < n → same (name_of s from i) name ≡ true → i ≡ place_of s from n name
  key_found l q = place_found s from n name i l q (λ j h. before j h l (same (name_of s from j) name) refl)

-- a name that begins where the table says ends within the bytes
pub name-room : (s : List ℕ) (from n : ℕ) (t starts : List ℕ) → Keyed s from n t starts → (i : ℕ) → i < n → get_or starts i 0 + 1 + get_or s (get_or starts i 0) 0 ≤ length s
name-room s from n t starts k i h = omega (arith, ap (λ (a : ℕ). a + 1 + get_or s a 0) (k.begins i h), name-ends s from n i h, k.within)
