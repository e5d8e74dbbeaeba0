-- The form's tests in one row, as RULES, Numbers of refusal and The sheet with names list them: 1; 2, 3, 4 for each record in turn; 4 for names that are not N; 5.
use mathlib.Core.Path.{◌≡◌, ap, ◌∙◌}
use mathlib.Core.Bool.{not}
use mathlib.Core.List.{List}
use Prim.Native.Nat.{ℕ}
use lib.Dec.{eqb, ltb}
use lib.ListN.{length}
use Rattle.verdict.specs.declared.Place.TheVariants.{Byte}
use Rattle.verdict.specs.Answer.{Answer, test, test_at, ◌or_else◌}
use Rattle.verdict.proofs.Answers.{or_else_assoc}
use Rattle.endian.specs.Bytes.{number}
use Rattle.records.specs.Form.{max_sheet, max_named, body_at, names_at, record_tests, start_of, records_tests, form_tests}

-- a sheet without lengths
pub two_in_row : (s : List ℕ) → form_tests 2 s
    ≡ (test 1 (ltb max_sheet (length s))
    or_else record_tests s 0 1
    or_else record_tests s (start_of s 1) 2
    or_else test_at 5 (Byte (start_of s 2)) (ltb (start_of s 2) (length s)))
unfolding start_of records_tests
two_in_row s = ap (λ (k : Answer). test 1 (ltb max_sheet (length s)) or_else k) (or_else_assoc (record_tests s 0 1) (record_tests s (start_of s 1) 2) (test_at 5 (Byte (start_of s 2)) (ltb (start_of s 2) (length s))))

-- a sheet
pub three_in_row : (s : List ℕ) → form_tests 3 s
    ≡ (test 1 (ltb max_sheet (length s))
    or_else record_tests s 0 1
    or_else record_tests s (start_of s 1) 2
    or_else record_tests s (start_of s 2) 3
    or_else test_at 5 (Byte (start_of s 3)) (ltb (start_of s 3) (length s)))
unfolding start_of records_tests
three_in_row s =
    ap (λ (k : Answer). test 1 (ltb max_sheet (length s)) or_else k)
    (grouped (record_tests s 0 1) (record_tests s (start_of s 1) 2) (record_tests s (start_of s 2) 3) (test_at 5 (Byte (start_of s 3)) (ltb (start_of s 3) (length s))))
  where
    grouped : (a b c d : Answer) → (((a or_else b) or_else c) or_else d) ≡ (a or_else b or_else c or_else d)
    grouped a b c d = or_else_assoc (a or_else b) c d ∙ or_else_assoc a b (c or_else d)

-- a sheet with names
pub four_in_row : (s : List ℕ) → form_tests 4 s
    ≡ (test 1 (ltb max_named (length s))
    or_else record_tests s 0 1
    or_else record_tests s (start_of s 1) 2
    or_else record_tests s (start_of s 2) 3
    or_else record_tests s (start_of s 3) 5
    or_else test_at 4 (Byte (start_of s 3)) (not (eqb (names_at s (start_of s 3)) (number 2 s (body_at 0))))
    or_else test_at 5 (Byte (start_of s 4)) (ltb (start_of s 4) (length s)))
unfolding start_of records_tests
four_in_row s =
    let names = test_at 4 (Byte (start_of s 3)) (not (eqb (names_at s (start_of s 3)) (number 2 s (body_at 0)))) in
    ap (λ (k : Answer). test 1 (ltb max_named (length s)) or_else k)
    (grouped (record_tests s 0 1) (record_tests s (start_of s 1) 2) (record_tests s (start_of s 2) 3) (record_tests s (start_of s 3) 5) (names or_else test_at 5 (Byte (start_of s 4)) (ltb (start_of s 4) (length s))))
  where
    grouped : (a b c d e : Answer) → ((((a or_else b) or_else c) or_else d) or_else e) ≡ (a or_else b or_else c or_else d or_else e)
    grouped a b c d e = or_else_assoc ((a or_else b) or_else c) d e ∙ or_else_assoc (a or_else b) c (d or_else e) ∙ or_else_assoc a b (c or_else d or_else e)
