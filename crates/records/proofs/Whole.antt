-- The whole answer to a form: what the records in turn leave to the count of the names and to the bytes behind the last record.
use mathlib.Core.Path.{◌≡◌, sym, ap, ◌∙◌}
use mathlib.Core.Bool.{Bool, true, false, not, ◌&&◌, true≢false}
use mathlib.Core.List.{List}
use Prim.Native.Nat.{ℕ, ◌+◌, ◌<◌, ◌≤◌}
use native.Mathlib.Decide.{dec_lt}
use native.Mathlib.Omega.{arith}
use borrow.Author.Tests.{lt-ltb, le-ltb, ltb-false}
use lib.Dec.{eqb, ltb}
use lib.ListN.{length, get_or}
use Rattle.exact.proofs.Decide.{by_cases}
use Rattle.verdict.specs.declared.Reason.TheVariants.{SheetTooLong, WrongCounts, BytesLeft}
use Rattle.verdict.specs.declared.Place.TheVariants.{Nowhere, Byte}
use Rattle.verdict.specs.declared.Refusal.{Refusal}
use Rattle.std.specs.Prelude.{Ok, Err}
use Rattle.verdict.specs.Answer.{Answer, pass, fault, refusal_of, test_at, ◌or_else◌}
use Rattle.verdict.proofs.Answers.{or_none}
use Rattle.endian.specs.Bytes.{number}
use Rattle.records.specs.declared.Layout.{Layout}
use Rattle.records.specs.Form.{longest, body_at, end_at, size_at, counts_out, count_at, body_length, no_vertices, kind_of, names_at, start_of, records_tests, names_differ, form_tests}
use Rattle.records.specs.Laid.{max_starts, Laid, LayoutAnswer}
use Rattle.records.proofs.Decoding.{padded-before}
use Rattle.records.proofs.InTurn.{first-start, each-passes, record-there, record-counted, laid-refused}

module _ (count : ℕ) (s : List ℕ) where
  abbrev differ : Answer
  differ = test_at 4 (Byte (start_of s 3)) (names_differ count s)

  abbrev left : Answer
  left = test_at 5 (Byte (start_of s count)) (ltb (start_of s count) (length s))

  -- the first record is long enough for N
  strains-there : 0 < count → records_tests s count ≡ pass → body_at 0 + 2 ≤ length s
  strains-there h z =
      let first = each-passes s count z 0 h in
      let none = no_vertices 1 (count_at s (start_of s 0) 1) in
      let counts : counts_out s (start_of s 0) 1 ≡ false = record-counted s (start_of s 0) 1 first in
      let short = (or_none (ltb (size_at s (start_of s 0)) 2) (not (eqb (size_at s (start_of s 0)) (body_length 1 (count_at s (start_of s 0) 1)))) counts).0 in
      omega (arith, first-start s, record-there s (start_of s 0) 1 first, ltb-false (size_at s (start_of s 0)) 2 short)

  -- the count of the names is asked of the fourth record
  module _ (at : ℕ) (e : 3 < count → at ≡ start_of s 3) where
    pub differ-is : (ltb 3 count && not (eqb (names_at s at) (number 2 s (body_at 0)))) ≡ names_differ count s
    differ-is = by_cases (dec_lt 3 count)
        (λ l. ap (λ (a : ℕ). ltb 3 count && not (eqb (names_at s a) (number 2 s (body_at 0)))) (e l))
        (λ l. rw (le-ltb 3 count (omega arith)))

    differ-at : names_differ count s ≡ true → at ≡ start_of s 3
    differ-at d = by_cases (dec_lt 3 count) e (λ l. absurd (true≢false (sym d ∙ rw (le-ltb 3 count (omega arith)))))

    pub names-there : records_tests s count ≡ pass → 3 < count → (end_at s at ≤ length s) × (body_at 0 + 2 ≤ length s)
    names-there z l = (rw (e l) (record-there s (start_of s 3) (kind_of 3) (each-passes s count z 3 l)), strains-there (omega arith) z)

  -- where a record starts, or the last one ends, by what was laid
  pub laid-at : (t : Answer) (x : Layout) → Laid t count s (Ok x) → (k : ℕ) → k ≤ count → get_or x.starts k 0 ≡ start_of s k
  laid-at t x p k l = ap (λ (y : List ℕ). get_or y k 0) p.starts ∙ padded-before 0 max_starts (count + 1) (start_of s) k (omega arith)

  pub too_long : longest count < length s → LayoutAnswer count s (Err (record { reason = SheetTooLong; place = Nowhere }))
  too_long h = laid-refused (form_tests count s) count s (record { reason = SheetTooLong; place = Nowhere }) (simp (lt-ltb (longest count) (length s) h))

  module _ (short : length s ≤ longest count) where
    rest : form_tests count s ≡ (records_tests s count or_else differ or_else left)
    rest = ap (λ (b : Bool). test_at 1 Nowhere b or_else records_tests s count or_else differ or_else left) (le-ltb (longest count) (length s) short)

    pub record-refused : (r : Refusal) → refusal_of r ≡ records_tests s count → LayoutAnswer count s (Err r)
    record-refused r f = laid-refused (form_tests count s) count s r (rest ∙ ap (λ (z : Answer). z or_else differ or_else left) (sym f))

    module _ (z : records_tests s count ≡ pass) where
      past_records : form_tests count s ≡ (differ or_else left)
      past_records = rest ∙ ap (λ (a : Answer). a or_else differ or_else left) z

      pub names-refused : (at : ℕ) → (3 < count → at ≡ start_of s 3) → names_differ count s ≡ true → LayoutAnswer count s (Err (record { reason = WrongCounts; place = Byte at }))
      names-refused at e d = laid-refused (form_tests count s) count s (record { reason = WrongCounts; place = Byte at })
          (past_records ∙ ap (λ (b : Bool). test_at 4 (Byte (start_of s 3)) b or_else left) d ∙ ap (λ (a : ℕ). fault 4 (Byte a)) (sym (differ-at at e d)))

      module _ (d : names_differ count s ≡ false) (at : ℕ) (e : at ≡ start_of s count) where
        by_end : (b : Bool) → ltb at (length s) ≡ b → form_tests count s ≡ test_at 5 (Byte at) b
        by_end b f =
            past_records ∙ ap (λ (c : Bool). test_at 4 (Byte (start_of s 3)) c or_else left) d
            ∙ ap (λ (a : ℕ). test_at 5 (Byte a) (ltb a (length s))) (sym e) ∙ ap (test_at 5 (Byte at)) f

        pub bytes_left : at < length s → LayoutAnswer count s (Err (record { reason = BytesLeft; place = Byte at }))
        bytes_left h = laid-refused (form_tests count s) count s (record { reason = BytesLeft; place = Byte at }) (by_end true (lt-ltb at (length s) h))

        pub all_read : length s ≤ at → (x : Layout) → Laid (records_tests s count) count s (Ok x) → LayoutAnswer count s (Ok x)
        all_read h x p = record { answer = sym (by_end false (le-ltb at (length s) h)); starts = p.starts }
