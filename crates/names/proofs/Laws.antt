-- What names tell the rooms above. A name has 1 to 10 bytes, each a name byte (`name-long`, `name-bytes`). Names that pass 28 are names
-- (`names-formed`), no two alike (`names_apart`), and each strain is found by its own (`place-of`); a strain that is found has the name
-- (`place-has`), and where none is found none has it (`place-missing`). The names of a lent record that passes lie within it (`lent-within`),
-- those of a sheet with names within the sheet (`sheet-within`); a strain below `n` has its bytes there (`name-size`).
use mathlib.Core.Path.{◌≡◌, refl, sym, ap, ◌∙◌}
use mathlib.Core.Bool.{Bool, true, false, cond, not, ◌&&◌, true≢false}
use mathlib.Core.List.{List, [], ◌∷◌}
use Prim.Native.Nat.{ℕ, zero, suc, ◌<◌, ◌≤◌}
use native.Mathlib.Decide.{dec_lt}
use native.Mathlib.Omega.{arith}
use borrow.Author.Tests.{lt-ltb, le-ltb, leb-true, eqb-true, not-false}
use lib.Dec.{eqb, ltb, leb}
use lib.ListN.{length, get_or}
use Rattle.exact.proofs.Decide.{by_cases}
use Rattle.verdict.specs.Answer.{pass, test, test_at, ◌or_else◌}
use Rattle.verdict.specs.declared.Place.TheVariants.{Byte}
use Rattle.verdict.specs.Table.{some, first}
use Rattle.verdict.proofs.Table.{some-none, some_first, first-none, first_past, first-is, lowest}
use Rattle.verdict.proofs.Answers.{or_none, or_else_pass, test-pass}
use Rattle.digits.specs.Digits.{run, same}
use Rattle.digits.proofs.Reading.{both_true}
use Rattle.digits.proofs.Comparing.{same_self, same_list_lem}
use Rattle.records.specs.Names.{max_name, name_start}
use Rattle.endian.specs.Bytes.{number}
use Rattle.records.specs.Form.{head_size, names_kind, body_at, end_at, record_tests, start_of, form_tests}
use Rattle.records.proofs.Formed.{form-ends, names-many, names-end}
use Rattle.names.specs.Name.{is_name_byte, is_name}
use Rattle.names.specs.Record.{name_of, name_out, names_out, place_of, record_count, names_tests}
use Rattle.names.proofs.Walking.{name-ends, size_is}
use Rattle.names.proofs.Lent.{record-whole, ends_with}
pub use Rattle.records.proofs.Names.{name-first, name-next, names_rise, names-far, count-ends}
pub use Rattle.names.proofs.Settled.{one-named}
pub use Rattle.names.proofs.Walking.{lent_is}

-- ---- one name
-- a run that is as long as the text is of every byte
run-each : (p : ℕ → Bool) (l : List ℕ) → run p l ≡ length l → (i : ℕ) → i < length l → p (get_or l i 0) ≡ true
unfolding run
run-each p [] e i h = absurd (omega arith)
run-each p (x ∷ xs) e i h = let ih = run-each p xs in go (p x) refl ih i h
  where
    go : (b : Bool) → p x ≡ b → (run p xs ≡ length xs → (j : ℕ) → j < length xs → p (get_or xs j 0) ≡ true) → (i : ℕ) → i < suc (length xs) → p (get_or (x ∷ xs) i 0) ≡ true
    go true q ih zero g = q
    go true q ih (suc j) g = ih (omega (arith, sym (ap (λ (b : Bool). cond b (suc (run p xs)) 0) q) ∙ e)) j (omega arith)
    go false q ih i g = absurd (omega (arith, sym (ap (λ (b : Bool). cond b (suc (run p xs)) 0) q) ∙ e))

module _ (l : List ℕ) (e : is_name l ≡ true) where
  parts : (leb 1 (length l) ≡ true) × (leb (length l) max_name ≡ true) × (eqb (run is_name_byte l) (length l) ≡ true)
  unfolding is_name
  parts = let (a, r) = both_true (leb 1 (length l)) (leb (length l) max_name && eqb (run is_name_byte l) (length l)) e in
      let (b, c) = both_true (leb (length l) max_name) (eqb (run is_name_byte l) (length l)) r in (a, b, c)

  pub name-long : (1 ≤ length l) × (length l ≤ max_name)
  name-long = (leb-true 1 (length l) parts.0, leb-true (length l) max_name parts.1)

  pub name-run : run is_name_byte l ≡ length l
  name-run = eqb-true (run is_name_byte l) (length l) parts.2

  pub name-bytes : (i : ℕ) → i < length l → is_name_byte (get_or l i 0) ≡ true
  name-bytes = run-each is_name_byte l name-run

-- ---- names within the bytes
module _ (s : List ℕ) (from n : ℕ) (w : name_start s from n ≤ length s) where
  -- name i has as many bytes as its length byte says
  pub name-size : (i : ℕ) → i < n → length (name_of s from i) ≡ get_or s (name_start s from i) 0
  name-size i h = size_is s from i (omega (arith, name-ends s from n i h))

-- the names of a sheet with names lie within it
pub sheet-within : (s : List ℕ) → form_tests 4 s ≡ pass → name_start s (body_at (start_of s 3)) (number 2 s (body_at 0)) ≤ length s
sheet-within s z =
    let l : 3 < 4 = omega arith in
    omega (arith, ap (name_start s (body_at (start_of s 3))) (names-many 4 s z l), names-end 4 s z l, form-ends 4 s z)

-- ---- names that pass 28
module _ (s : List ℕ) (from n : ℕ) (z : names_out s from n ≡ false) where
  each : (i : ℕ) → i < n → (not (is_name (name_of s from i)) ≡ false) × (some i (λ j. same (name_of s from j) (name_of s from i)) ≡ false)
  unfolding names_out
  each i h = or_none (not (is_name (name_of s from i))) (some i (λ j. same (name_of s from j) (name_of s from i))) (some-none n (name_out s from) z i h)

  pub names-formed : (i : ℕ) → i < n → is_name (name_of s from i) ≡ true
  names-formed i h = not-false (is_name (name_of s from i)) (each i h).0

  -- a name is none of those before it
  pub names-new : (i j : ℕ) → i < n → j < i → same (name_of s from j) (name_of s from i) ≡ false
  names-new i j h l = some-none i (λ k. same (name_of s from k) (name_of s from i)) (each i h).1 j l

  differ : (i j : ℕ) → i < n → j < i → name_of s from j ≡ name_of s from i → ⊥
  differ i j h l e = true≢false (sym (same_self (name_of s from j)) ∙ ap (same (name_of s from j)) e ∙ names-new i j h l)

  pub names_apart : (i j : ℕ) → i < n → j < n → name_of s from i ≡ name_of s from j → i ≡ j
  names_apart i j h g e = by_cases (dec_lt i j) (λ l. absurd (differ j i g l e))
      (λ a. by_cases (dec_lt j i) (λ l. absurd (differ i j h l (sym e))) (λ b. omega arith))

  -- each strain is found by its name
  pub place-of : (i : ℕ) → i < n → place_of s from n (name_of s from i) ≡ i
  unfolding place_of
  place-of i h = first-is n (λ j. same (name_of s from j) (name_of s from i)) i h (same_self (name_of s from i)) (λ j l. names-new i j h l)

-- every text has a place, n where no strain has it
pub place-most : (s : List ℕ) (from n : ℕ) (l : List ℕ) → place_of s from n l ≤ n
unfolding place_of
place-most s from n l = by_cases (dec_lt n (first n (λ i. same (name_of s from i) l)))
    (λ h. let none = some_first n (λ i. same (name_of s from i) l) ∙ le-ltb (first n (λ i. same (name_of s from i) l)) n (omega arith) in
    omega (arith, first-none n (λ i. same (name_of s from i) l) none))
    (λ h. omega arith)

pub place-missing : (s : List ℕ) (from n : ℕ) (l : List ℕ) → n ≤ place_of s from n l → (i : ℕ) → i < n → name_of s from i ≡ l → ⊥
unfolding place_of
place-missing s from n l h i g e =
    true≢false (sym (same_self l) ∙ ap (λ (x : List ℕ). same x l) (sym e) ∙ first_past n (λ j. same (name_of s from j) l) h i g)

-- a strain that is found has the name
pub place-has : (s : List ℕ) (from n : ℕ) (l : List ℕ) → place_of s from n l < n → name_of s from (place_of s from n l) ≡ l
unfolding place_of
place-has s from n l h =
    let p : ℕ → Bool = λ i. same (name_of s from i) l in
    same_list_lem (name_of s from (first n p)) l (lowest n p (some_first n p ∙ lt-ltb (first n p) n h)).fault

-- ---- a lent record that passes
module _ (s : List ℕ) (z : names_tests s ≡ pass) where
  pub lent-record : record_tests s 0 names_kind ≡ pass
  lent-record = (or_else_pass (record_tests s 0 names_kind) (test_at 5 (Byte (end_at s 0)) (ltb (end_at s 0) (length s)) or_else test 28 (names_out s head_size (record_count s))) z).0

  pub lent-within : name_start s head_size (record_count s) ≤ length s
  lent-within = omega (arith, ends_with s lent-record, record-whole s lent-record)

  pub lent-formed : names_out s head_size (record_count s) ≡ false
  lent-formed =
      let left = test_at 5 (Byte (end_at s 0)) (ltb (end_at s 0) (length s)) in
      let out = names_out s head_size (record_count s) in
      test-pass 28 out (or_else_pass left (test 28 out) (or_else_pass (record_tests s 0 names_kind) (left or_else test 28 out) z).1).1
