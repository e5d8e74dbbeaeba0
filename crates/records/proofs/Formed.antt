-- What records that pass tell, and what a form that stands tells: how long the sheet is, where each record starts, its kind, how many
-- names there are, and that the last record ends with the sheet; and the same of a record by the start that `records` gives (`record-at`).
use mathlib.Core.Path.{◌≡◌, sym, ap, ◌∙◌}
use mathlib.Core.Bool.{Bool, not, ◌&&◌}
use mathlib.Core.List.{List}
use Prim.Native.Nat.{ℕ, suc, ◌+◌, ◌<◌, ◌≤◌}
use native.Mathlib.Decide.{dec_lt}
use native.Mathlib.Omega.{arith}
use borrow.Author.Tests.{lt-ltb, le-ltb, ltb-false, ne_eqb, eqb-true, not-false}
use lib.Dec.{eqb, ltb}
use lib.ListN.{length, get_or}
use Rattle.exact.proofs.Decide.{by_cases}
use Rattle.exact.proofs.Fill.{get_or_table_const}
use Rattle.std.specs.Prelude.{Ok}
use Rattle.verdict.specs.declared.Place.TheVariants.{Byte}
use Rattle.verdict.specs.Answer.{Answer, pass, test, test_at, ◌or_else◌}
use Rattle.verdict.proofs.Answers.{or_else_pass, test-pass, test_at-pass, passes}
use Rattle.endian.specs.Bytes.{number}
use Rattle.records.specs.Names.{name_start}
use Rattle.records.specs.Form.{max_sheet, max_named, longest, names_kind, kind_of, kind_at, end_at, body_at, body_length, count_at, names_at, start_of, record_tests, records_tests, names_differ, form_tests}
use Rattle.records.specs.Laid.{max_starts, LayoutAnswer}
use Rattle.records.specs.declared.Layout.{Layout}
use Rattle.records.proofs.Decoding.{padded-before}
use Rattle.records.proofs.Counts.{counted, body_counts}
use Rattle.records.proofs.InTurn.{record-there, record-counted, record-kind, next_start, each-passes, starts-within}

-- ---- of records that pass
module _ (count : ℕ) (s : List ℕ) (z : records_tests s count ≡ pass) (k : ℕ) (l : k < count) where
  passing : record_tests s (start_of s k) (kind_of k) ≡ pass
  passing = each-passes s count z k l

  -- record k is there; of the first three, each is as long as its counts say
  pub passed-ends : start_of s (suc k) ≤ length s
  passed-ends = rw (next_start s k) (record-there s (start_of s k) (kind_of k) passing)

  pub passed-long : k < 3 → start_of s (suc k) ≡ body_at (start_of s k) + body_length (kind_of k) (count_at s (start_of s k) (kind_of k))
  passed-long h =
      let kind : kind_of k ≡ k + 1 = rw (ne_eqb k 3 (omega arith)) in
      let counts = sym (body_counts s (start_of s k) (kind_of k) (λ e. omega (arith, kind)) (λ e. omega (arith, kind))) ∙ record-counted s (start_of s k) (kind_of k) passing in
      next_start s k ∙ ap (λ (n : ℕ). body_at (start_of s k) + n) (counted s (start_of s k) (kind_of k) counts)

-- ---- of a form that stands
module _ (count : ℕ) (s : List ℕ) (z : form_tests count s ≡ pass) where
  abbrev differ : Answer
  differ = test_at 4 (Byte (start_of s 3)) (names_differ count s)

  abbrev left : Answer
  left = test_at 5 (Byte (start_of s count)) (ltb (start_of s count) (length s))

  -- at most the longest
  pub form-short : length s ≤ longest count
  form-short =
      ltb-false (longest count) (length s) (test-pass 1 (ltb (longest count) (length s)) (or_else_pass (test 1 (ltb (longest count) (length s))) (records_tests s count or_else differ or_else left) z).0)

  -- and so at most the longest with names
  pub form_bounded : length s ≤ max_named
  form_bounded = by_cases (dec_lt 3 count)
      (λ l. let e : longest count ≡ max_named = rw (lt-ltb 3 count l) in omega (arith, form-short))
      (λ l. let e : longest count ≡ max_sheet = rw (le-ltb 3 count (omega arith)) in omega (arith, form-short))

  behind-first : (records_tests s count or_else differ or_else left) ≡ pass
  behind-first = (or_else_pass (test 1 (ltb (longest count) (length s))) (records_tests s count or_else differ or_else left) z).1

  behind_records : (differ or_else left) ≡ pass
  behind_records = (or_else_pass (records_tests s count) (differ or_else left) behind-first).1

  -- nothing stands behind the last record
  pub form-whole : length s ≤ start_of s count
  form-whole = ltb-false (start_of s count) (length s) (test_at-pass 5 (Byte (start_of s count)) (ltb (start_of s count) (length s)) (or_else_pass differ left behind_records).1)

  pub form_records : records_tests s count ≡ pass
  form_records = (or_else_pass (records_tests s count) (differ or_else left) behind-first).0

  -- the last record ends with the sheet
  pub form-ends : start_of s count ≡ length s
  form-ends = omega (arith, form-whole, starts-within s count form_records)

  -- record k is there; of the first three, each is as long as its counts say
  module _ (k : ℕ) (l : k < count) where
    pub record-ends : start_of s (suc k) ≤ length s
    record-ends = passed-ends count s form_records k l

    pub record-long : k < 3 → start_of s (suc k) ≡ body_at (start_of s k) + body_length (kind_of k) (count_at s (start_of s k) (kind_of k))
    record-long h = passed-long count s form_records k l h

    pub kind-due : kind_at s (start_of s k) ≡ kind_of k
    kind-due = record-kind s (start_of s k) (kind_of k) (passing count s form_records k l)

  -- the names, in the fourth record: as many as the matrix has strains, and the last ends with the record
  module _ (l : 3 < count) where
    pub names-many : names_at s (start_of s 3) ≡ number 2 s (body_at 0)
    names-many =
        let other = eqb (names_at s (start_of s 3)) (number 2 s (body_at 0)) in
        let d = test_at-pass 4 (Byte (start_of s 3)) (names_differ count s) (or_else_pass differ left behind_records).0 in
        eqb-true (names_at s (start_of s 3)) (number 2 s (body_at 0)) (not-false other (sym (ap (λ (b : Bool). b && not other) (lt-ltb 3 count l)) ∙ d))

    pub names-end : name_start s (body_at (start_of s 3)) (names_at s (start_of s 3)) ≡ start_of s 4
    names-end =
        let end = name_start s (body_at (start_of s 3)) (names_at s (start_of s 3)) in
        eqb-true end (end_at s (start_of s 3)) (not-false (eqb end (end_at s (start_of s 3))) (record-counted s (start_of s 3) names_kind (passing count s form_records 3 l))) ∙ sym (next_start s 3)

-- what the start that `records` gives for record k tells: of any bytes, that it lies in the sheet; of a form that stands, that it is where the
-- record starts, and the record's kind and end
pub record RecordAt (count : ℕ) (s : List ℕ) (k at : ℕ) : Type 0 where
  pub within : at ≤ length s
  pub start : form_tests count s ≡ pass → at ≡ start_of s k
  pub kind : form_tests count s ≡ pass → kind_at s at ≡ kind_of k
  pub ends : form_tests count s ≡ pass → end_at s at ≡ start_of s (suc k)

pub record-at : (count : ℕ) (s : List ℕ) (r : Layout) → LayoutAnswer count s (Ok r) → (k : ℕ) → k < count → RecordAt count s k (get_or r.starts k 0)
record-at count s r a k l = let z : form_tests count s ≡ pass = sym a.answer in record {
  within = omega (arith, start, next_start s k, record-ends count s z k l);
  start = λ _. start;
  kind = λ z. ap (kind_at s) start ∙ kind-due count s z k l;
  ends = λ z. ap (end_at s) start ∙ sym (next_start s k);
}
  where
    start : get_or r.starts k 0 ≡ start_of s k
    start = ap (λ (x : List ℕ). get_or x k 0) a.starts ∙ padded-before 0 max_starts (count + 1) (start_of s) k (omega arith)
