-- What an accepted sheet has lies in the sheet: the rows of its first record, and the lengths of its third.
use mathlib.Core.Path.{◌≡◌, refl}
use mathlib.Core.Bool.{Bool, true, false, not, ◌||◌, true≢false}
use mathlib.Core.List.{List}
use Prim.Native.Nat.{ℕ, ◌+◌, ◌*◌, ◌≤◌}
use native.Mathlib.Omega.{arith}
use borrow.Author.Tests.{eqb-true, ltb-false, not-false}
use lib.Dec.{eqb, ltb}
use lib.ListN.{length}
use Rattle.verdict.specs.declared.Place.TheVariants.{Byte}
use Rattle.verdict.specs.declared.Rule.TheVariants.{Plain}
use Rattle.verdict.specs.Answer.{Answer, pass, test, test_at, ◌or_else◌}
use Rattle.matrix.specs.Place.{pair_count}
use Rattle.records.specs.Form.{max_sheet, body_at, size_at, end_at, head_cut, body_cut, kind_at, count_at, counts_size, body_out, body_length, kind_of, start_of, record_tests, records_tests, form_tests}
use Rattle.reading.specs.Holds.{strains_of, edges_of}
use Rattle.reading.specs.Tests.{sheet_tests}
use Rattle.sheet.proofs.Laws.{or_else_pass, test_at-pass, sheet-form}

module _ (s : List ℕ) where
  abbrev behind : Answer
  behind = records_tests s 3 or_else test_at 5 (Byte (start_of s 3)) (ltb (start_of s 3) (length s))

  -- the first record and the third pass their tests
  records_pass : form_tests 3 s ≡ pass → (record_tests s 0 1 ≡ pass) × (record_tests s (start_of s 2) 3 ≡ pass)
  unfolding records_tests start_of
  records_pass z =
      let rest = (or_else_pass (test 1 (ltb max_sheet (length s))) behind z).1 in
      let three = (or_else_pass (records_tests s 3) (test_at 5 (Byte (start_of s 3)) (ltb (start_of s 3) (length s))) rest).0 in
      let (two, third) = or_else_pass (records_tests s 2) (record_tests s (start_of s 2) (kind_of 2)) three in
      ((or_else_pass (records_tests s 1) (record_tests s (start_of s 1) (kind_of 1)) two).0, third)

  either : (a b : Bool) → (a || b) ≡ false → (a ≡ false) × (b ≡ false)
  either true b e = absurd (true≢false e)
  either false b e = (refl, e)

  -- of a record that passes: it ends within the sheet, and its counts are right
  module _ (at kind : ℕ) (z : record_tests s at kind ≡ pass) where
    abbrev of-kind : Answer
    of-kind = test_at 3 (Byte at) (not (eqb (kind_at s at) kind)) or_else test_at 4 (Byte at) (body_out s at kind)

    of_body : (test_at 2 (Byte at) (body_cut s at) or_else of-kind) ≡ pass
    of_body = (or_else_pass (test_at 2 (Byte at) (head_cut s at)) (test_at 2 (Byte at) (body_cut s at) or_else of-kind) z).1

    body_there : end_at s at ≤ length s
    body_there = ltb-false (length s) (end_at s at) (test_at-pass 2 (Byte at) (body_cut s at) (or_else_pass (test_at 2 (Byte at) (body_cut s at)) of-kind of_body).0)

    counts-right : body_out s at kind ≡ false
    counts-right =
        test_at-pass 4 (Byte at) (body_out s at kind)
        (or_else_pass (test_at 3 (Byte at) (not (eqb (kind_at s at) kind))) (test_at 4 (Byte at) (body_out s at kind)) (or_else_pass (test_at 2 (Byte at) (body_cut s at)) of-kind of_body).1).1

  sized : (n m : ℕ) → not (eqb n m) ≡ false → n ≡ m
  sized n m e = eqb-true n m (not-false (eqb n m) e)

  pub rows-there : sheet_tests Plain s ≡ pass → body_at 0 + 2 + 2 * pair_count (strains_of s) ≤ length s
  rows-there z = let r = (records_pass (sheet-form s Plain z)).0 in
      let size = sized (size_at s 0) (body_length 1 (count_at s 0 1)) (either (ltb (size_at s 0) (counts_size 1)) (not (eqb (size_at s 0) (body_length 1 (count_at s 0 1)))) (counts-right 0 1 r)).1 in
      omega (arith, body_there 0 1 r, size)

  pub lengths-there : sheet_tests Plain s ≡ pass → body_at (start_of s 2) + 6 + 8 * edges_of s ≤ length s
  lengths-there z = let r = (records_pass (sheet-form s Plain z)).1 in
      let at = start_of s 2 in
      let size : size_at s at ≡ 6 + 8 * edges_of s = sized (size_at s at) (body_length 3 (count_at s at 3)) (either (ltb (size_at s at) (counts_size 3)) (not (eqb (size_at s at) (body_length 3 (count_at s at 3)))) (counts-right at 3 r)).1 in
      omega (arith, body_there at 3 r, size)
