-- What the form of a long sheet that stands tells: how long the sheet is, that its matrix and its tree pass, and where the long lengths stand.
use mathlib.Core.Path.{◌≡◌, refl, sym, ap, ◌∙◌}
use mathlib.Core.List.{List}
use Prim.Native.Nat.{ℕ, suc, ◌+◌, ◌*◌, ◌≤◌}
use native.Mathlib.Nat.{mul-suc}
use native.Mathlib.Numerals.{add-one}
use native.Mathlib.Omega.{arith}
use borrow.Author.Tests.{ltb-false}
use lib.Dec.{ltb}
use lib.ListN.{length}
use Rattle.verdict.specs.declared.Place.TheVariants.{Byte}
use Rattle.verdict.specs.Answer.{Answer, pass, test, test_at, ◌or_else◌}
use Rattle.verdict.proofs.Answers.{or_else_pass, test-pass, test_at-pass}
use Rattle.endian.specs.Bytes.{number}
use Rattle.records.specs.Form.{long_kind, size_at, body_at, levels_at, long_edges_at, long_length, start_of, record_tests, records_tests}
use Rattle.records.proofs.Counts.{long-counted}
use Rattle.records.proofs.InTurn.{next_start, record-there, record-counted}
use Rattle.long_records.specs.LongForm.{max_long, long_records_tests, long_form_tests}

-- in all
pub bytes : max_long ≡ 30393
bytes = refl

module _ (s : List ℕ) (z : long_form_tests s ≡ pass) where
  abbrev first : Answer
  first = test 1 (ltb max_long (length s))

  abbrev third : Answer
  third = record_tests s (start_of s 2) long_kind

  abbrev left : Answer
  left = test_at 5 (Byte (start_of s 3)) (ltb (start_of s 3) (length s))

  behind-first : (long_records_tests s or_else left) ≡ pass
  behind-first = (or_else_pass first (long_records_tests s or_else left) z).1

  records_pass : long_records_tests s ≡ pass
  records_pass = (or_else_pass (long_records_tests s) left behind-first).0

  pub long-short : length s ≤ max_long
  long-short = ltb-false max_long (length s) (test-pass 1 (ltb max_long (length s)) (or_else_pass first (long_records_tests s or_else left) z).0)

  pub long-pair : records_tests s 2 ≡ pass
  long-pair = (or_else_pass (records_tests s 2) third records_pass).0

  pub long-third : record_tests s (start_of s 2) long_kind ≡ pass
  long-third = (or_else_pass (records_tests s 2) third records_pass).1

  -- the last record ends with the sheet
  pub long-ends : start_of s 3 ≡ length s
  long-ends =
      let behind = ltb-false (start_of s 3) (length s) (test_at-pass 5 (Byte (start_of s 3)) (ltb (start_of s 3) (length s)) (or_else_pass (long_records_tests s) left behind-first).1) in
      omega (arith, next_start s 2, record-there s (start_of s 2) long_kind long-third)

  -- and is as long as L and K say
  pub long-whole : body_at (start_of s 2) + long_length (levels_at s (start_of s 2)) (long_edges_at s (start_of s 2)) ≡ length s
  long-whole =
      ap (λ (n : ℕ). body_at (start_of s 2) + n) (sym (long-counted s (start_of s 2) (record-counted s (start_of s 2) long_kind long-third)))
      ∙ sym (next_start s 2) ∙ long-ends

  -- L digits of D and L of each of K numerators, from where the record starts
  digits_from : (end l k : ℕ) → end + 6 + long_length l k ≡ length s → end + 10 + 4 * l + 4 * (l * k) ≡ length s
  digits_from end l k e = let h : l * (k + 1) ≡ l * k + l = ap (λ (i : ℕ). l * i) (add-one k) ∙ mul-suc l k in omega (arith, e)

  pub digits-there : (end : ℕ) → end ≡ start_of s 2 → end + 10 + 4 * number 2 s (end + 6) + 4 * (number 2 s (end + 6) * number 2 s (end + 6 + 2)) ≡ length s
  digits-there end e = rw e (digits_from (start_of s 2) (levels_at s (start_of s 2)) (long_edges_at s (start_of s 2)) long-whole)
