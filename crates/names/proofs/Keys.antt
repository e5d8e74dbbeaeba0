-- The key of bytes, byte by byte (`key_turn`, `key_end`); and a table of the keys that are known: one that is not known is of no name before
-- (`key_new`), and a key that is marked leaves all others as they are (`key_marked`).
use mathlib.Core.Path.{◌≡◌, refl, sym, ap, ◌∙◌}
use mathlib.Core.Bool.{Bool, true, false, true≢false}
use mathlib.Core.List.{List}
use Prim.Native.Nat.{ℕ, ◌+◌, ◌*◌, ◌%◌, ◌<◌, ◌≤◌}
use native.Mathlib.Decide.{ℕ_discrete}
use native.Mathlib.Numerals.{add-one}
use native.Mathlib.Omega.{arith}
use borrow.Author.Tests.{eq-eqb}
use lib.Dec.{eqb}
use lib.ListN.{length, get_or, set, drop, length-set, drop_of_length-le}
use lib.Seq.{drop-cons, get_or-set_same, get_or-set_other}
use Rattle.exact.proofs.Decide.{by_cases}
use Rattle.verdict.specs.Table.{some}
use Rattle.verdict.proofs.Table.{some-no}
use Rattle.digits.specs.Digits.{same}
use Rattle.digits.proofs.Comparing.{same_list_lem}
use Rattle.names.specs.Name.{keys, key_from}
use Rattle.names.specs.Record.{name_of}

module _ (l : List ℕ) (key k : ℕ) where
  pub key_turn : k < length l → key_from key (drop k l) ≡ key_from 0 l → key_from ((key * 31 + get_or l k 0) % keys) (drop (k + 1) l) ≡ key_from 0 l
  unfolding key_from
  key_turn h e = rw add-one (sym (ap (key_from key) (drop-cons l k 0 h)) ∙ e)

  pub key_end : length l ≤ k → key_from key (drop k l) ≡ key_from 0 l → key ≡ key_from 0 l
  unfolding key_from
  key_end h e = sym (ap (key_from key) (drop_of_length-le l h)) ∙ e

-- ---- the keys of the names before name i
pub record Known (s : List ℕ) (from i : ℕ) (known : List ℕ) : Type 0 where
  pub size : length known ≡ keys
  pub each : (k : ℕ) → k < i → get_or known (key_from 0 (name_of s from k)) 0 ≡ 1

pub key_none : (s : List ℕ) (from : ℕ) (known : List ℕ) → length known ≡ keys → Known s from 0 known
key_none s from known e = record { size = e; each = λ k h. absurd (omega arith) }

module _ (s : List ℕ) (from i : ℕ) (known : List ℕ) (w : Known s from i known) (key : ℕ) (e : key ≡ key_from 0 (name_of s from i)) where
  apart : (get_or known key 0 ≡ 1 → ⊥) → (k : ℕ) → k < i → (b : Bool) → same (name_of s from k) (name_of s from i) ≡ b → b ≡ false
  apart n k h false q = refl
  apart n k h true q = absurd (n (ap (λ (x : ℕ). get_or known x 0) (e ∙ ap (key_from 0) (sym (same_list_lem (name_of s from k) (name_of s from i) q))) ∙ w.each k h))

  pub key_new : eqb (get_or known key 0) 1 ≡ false → some i (λ j. same (name_of s from j) (name_of s from i)) ≡ false
  key_new n = some-no i (λ j. same (name_of s from j) (name_of s from i)) (λ k h. apart (λ q. true≢false (sym (eq-eqb (get_or known key 0) 1 q) ∙ n)) k h _ refl)

  pub key_marked : key < keys → Known s from (i + 1) (set known key 1)
  key_marked b = record {
    size = length-set known key 1 ∙ w.size;
    each = λ k h. by_cases (ℕ_discrete (key_from 0 (name_of s from k)) key)
        (λ q. ap (λ (x : ℕ). get_or (set known key 1) x 0) q ∙ get_or-set_same known key 1 0 (omega (arith, w.size)))
        (λ q. get_or-set_other known key (key_from 0 (name_of s from k)) 1 0 q ∙ w.each k (by_cases (ℕ_discrete k i) (λ r. absurd (q (ap (λ (x : ℕ). key_from 0 (name_of s from x)) r ∙ sym e))) (λ r. omega arith)));
  }
