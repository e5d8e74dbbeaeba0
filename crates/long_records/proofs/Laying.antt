-- The answer to the form of a long sheet, by the answers to its records: `too_long`, `pair-refused`, `third-refused`, `bytes_left`, `all_read`.
use mathlib.Core.Path.{◌≡◌, sym, ap, ◌∙◌}
use mathlib.Core.Bool.{Bool, true, false}
use mathlib.Core.List.{List}
use Prim.Native.Nat.{ℕ, ◌<◌, ◌≤◌}
use native.Mathlib.Omega.{arith}
use borrow.Author.Tests.{lt-ltb, le-ltb}
use lib.Dec.{ltb}
use lib.ListN.{length, set}
use Rattle.exact.specs.Table.{padded}
use Rattle.verdict.specs.declared.Reason.TheVariants.{SheetTooLong, BytesLeft}
use Rattle.verdict.specs.declared.Place.TheVariants.{Nowhere, Byte}
use Rattle.verdict.specs.declared.Refusal.{Refusal}
use Rattle.std.specs.Prelude.{Result, Ok, Err}
use Rattle.verdict.specs.Answer.{Answer, pass, refusal_of, test_at, ◌or_else◌}
use Rattle.records.specs.declared.Layout.{Layout}
use Rattle.records.specs.Form.{long_kind, start_of, record_tests, records_tests}
use Rattle.records.specs.Laid.{max_starts, Laid}
use Rattle.records.proofs.Decoding.{decode_of, decode_turn, decode_end}
use Rattle.records.proofs.InTurn.{laid-refused}
use Rattle.long_records.specs.LongForm.{max_long, long_records_tests, long_form_tests}

module _ (s : List ℕ) where
  abbrev third : Answer
  third = record_tests s (start_of s 2) long_kind

  abbrev left : Answer
  left = test_at 5 (Byte (start_of s 3)) (ltb (start_of s 3) (length s))

  abbrev Answered : Result Layout Refusal → Type 0
  Answered x = Laid (long_form_tests s) 3 s x

  refusing : (r : Refusal) → long_form_tests s ≡ refusal_of r → Answered (Err r)
  refusing r f = laid-refused (long_form_tests s) 3 s r f

  pub too_long : max_long < length s → Answered (Err (record { reason = SheetTooLong; place = Nowhere }))
  too_long h = refusing (record { reason = SheetTooLong; place = Nowhere }) (simp (lt-ltb max_long (length s) h))

  module _ (short : length s ≤ max_long) where
    rest : long_form_tests s ≡ (long_records_tests s or_else left)
    rest = ap (λ (b : Bool). test_at 1 Nowhere b or_else long_records_tests s or_else left) (le-ltb max_long (length s) short)

    pub pair-refused : (r : Refusal) → refusal_of r ≡ records_tests s 2 → Answered (Err r)
    pair-refused r f = refusing r (rest ∙ ap (λ (z : Answer). (z or_else third) or_else left) (sym f))

    module _ (z : records_tests s 2 ≡ pass) where
      past-pair : long_form_tests s ≡ (third or_else left)
      past-pair = rest ∙ ap (λ (a : Answer). (a or_else third) or_else left) z

      pub third-refused : (at : ℕ) → at ≡ start_of s 2 → (r : Refusal) → refusal_of r ≡ record_tests s at long_kind → Answered (Err r)
      third-refused at a r f = refusing r
          (past-pair ∙ ap (λ (k : Answer). k or_else left) (ap (λ (i : ℕ). record_tests s i long_kind) (sym a) ∙ sym f))

      module _ (y : record_tests s (start_of s 2) long_kind ≡ pass) (end : ℕ) (e : end ≡ start_of s 3) where
        by_end : (b : Bool) → ltb end (length s) ≡ b → long_form_tests s ≡ test_at 5 (Byte end) b
        by_end b f = past-pair ∙ ap (λ (a : Answer). a or_else left) y
            ∙ ap (λ (a : ℕ). test_at 5 (Byte a) (ltb a (length s))) (sym e) ∙ ap (test_at 5 (Byte end)) f

        pub bytes_left : end < length s → Answered (Err (record { reason = BytesLeft; place = Byte end }))
        bytes_left h = refusing (record { reason = BytesLeft; place = Byte end }) (by_end true (lt-ltb end (length s) h))

        pub all_read : length s ≤ end → (starts : List ℕ) → starts ≡ padded 0 max_starts 3 (start_of s) → Answered (Ok (record { starts = set starts 3 end }))
        all_read h starts p =
            let d = decode_turn 0 max_starts 4 (start_of s) 3 starts end (omega arith) (omega arith) e (decode_of 0 max_starts 4 (start_of s) 3 starts (omega arith) (omega arith) p) in
            record {
              answer = sym (by_end false (le-ltb end (length s) h));
              starts = decode_end 0 max_starts 4 (start_of s) 4 (set starts 3 end) (omega arith) (omega arith) d;
            }
