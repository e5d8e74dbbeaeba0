-- Reading the text of a matrix and names gives them back, for every matrix and names that pass (`round_trip`).
use mathlib.Core.Path.{◌≡◌, refl, sym, ◌∙◌, ap, ap₂, subst}
use mathlib.Core.Bool.{Bool, false, cond, not}
use mathlib.Core.List.{List, [], ◌∷◌, ◌++◌}
use Prim.Native.Nat.{ℕ, suc, ◌+◌, ◌-◌, ◌*◌, ◌/◌, ◌%◌, ◌≤◌, ◌<◌}
use native.Mathlib.Decide.{dec_lt, ℕ_discrete}
use native.Mathlib.Omega.{arith}
use borrow.Author.Tests.{ltb-false, le-ltb, eq-eqb, ne_eqb, eqb-true, not-false}
use lib.Dec.{eqb, ltb}
use lib.ListN.{length, get_or, take, drop, get_or-eq_default}
use Rattle.exact.proofs.Decide.{by_cases}
use Rattle.exact.proofs.Fill.{table_is}
use Rattle.verdict.specs.Answer.{pass, test, ◌or_else◌}
use Rattle.verdict.specs.Table.{some}
use Rattle.verdict.proofs.Table.{some-no, some-none}
use Rattle.verdict.proofs.Answers.{or_else_pass, pass_or_else, test-pass, pass-test, none_or, or_none}
use Rattle.matrix.specs.Limits.{min_strains, max_strains, max_distance}
use Rattle.matrix.specs.Place.{pair_count, pair_place, pair_at, known}
use Rattle.matrix.specs.Tests.{count_out, strains_out, distance_out, matrix_tests}
use Rattle.matrix.proofs.Places.{place-onto, stands_at, pair-place-up, pair-place-sym}
use Rattle.writing.specs.Text.{decimal}
use Rattle.writing.proofs.Decimals.{decimal-small, decimal_step}
use Rattle.digits.specs.Digits.{run, is_blank, is_digit, number_from}
use Rattle.cells.specs.Cell.{cell_out, cell_entry}
use Rattle.cells.specs.Row.{cell_text}
use Rattle.pieces.specs.Pieces.{pieces_from, pieces}
use Rattle.phylip_text.specs.Form.{past, next_line, end_bad, count_size, count_of, behind_count, name_out, name_size, cells_of, row_text, cell_at, rows_of, rows_bad, row_bad, decimals_out, entry_at, halves_out, distances_read, names_read}
use Rattle.phylip_text.specs.Tests.{max_text, read_tests, Reads, names_short, name_byte_out, matter_tests}
use Rattle.phylip_text.specs.Text.{value_at, row_written, text_of}
use Rattle.phylip_text.proofs.Sizes.{text-length}
use Rattle.phylip_text.proofs.Cells.{run-digit, run-stops, number-digit, number-none}
use Rattle.phylip_text.proofs.Rows.{line-next, line-ended, rows_are, row-good, row_in, row_are, row-name}

-- ---- the count
not_blank : (v : ℕ) → is_blank (48 + v) ≡ false
not_blank v = none_or (ne_eqb (48 + v) 32 (λ e. omega arith)) (ne_eqb (48 + v) 9 (λ e. omega arith))

no_blanks : (v : ℕ) (l : List ℕ) → past ((48 + v) ∷ l) ≡ (48 + v) ∷ l
unfolding run
no_blanks v l = ap (λ (q : Bool). drop (cond q (suc (run is_blank l)) 0) ((48 + v) ∷ l)) (not_blank v)

-- what is read of a count: N, and k behind it
pub record CountIs (N : ℕ) (t k : List ℕ) : Type 0 where
  pub some-digits : eqb (count_size t) 0 ≡ false
  pub count-is : count_of t ≡ N
  pub behind-is : behind_count t ≡ k

one-digit : (a : ℕ) (k : List ℕ) → a < 10 → CountIs a ((48 + a) ∷ 10 ∷ k) (10 ∷ k)
unfolding count_size count_of behind_count
one-digit a k h =
    let p = no_blanks a (10 ∷ k) in
    let s : count_size ((48 + a) ∷ 10 ∷ k) ≡ 1 = ap (run is_digit) p ∙ run-digit a (10 ∷ k) h ∙ ap suc (run-stops (10 ∷ k) refl) in
    record {
      some-digits = ap (λ (n : ℕ). eqb n 0) s;
      count-is = ap₂ (λ (n : ℕ) (l : List ℕ). number_from 0 (take n l)) s p ∙ number-digit 0 a [] h ∙ number-none (0 * 10 + a) ∙ omega arith;
      behind-is = ap₂ (λ (n : ℕ) (l : List ℕ). drop n l) s p;
    }

two_digits : (a b : ℕ) (k : List ℕ) → a < 10 → b < 10 → CountIs (a * 10 + b) ((48 + a) ∷ (48 + b) ∷ 10 ∷ k) (10 ∷ k)
unfolding count_size count_of behind_count
two_digits a b k h i =
    let p = no_blanks a ((48 + b) ∷ 10 ∷ k) in
    let s : count_size ((48 + a) ∷ (48 + b) ∷ 10 ∷ k) ≡ 2 = ap (run is_digit) p ∙ run-digit a ((48 + b) ∷ 10 ∷ k) h ∙ ap suc (run-digit b (10 ∷ k) i ∙ ap suc (run-stops (10 ∷ k) refl)) in
    record {
      some-digits = ap (λ (n : ℕ). eqb n 0) s;
      count-is = ap₂ (λ (n : ℕ) (l : List ℕ). number_from 0 (take n l)) s p ∙ number-digit 0 a ((48 + b) ∷ []) h ∙ number-digit (0 * 10 + a) b [] i ∙ number-none ((0 * 10 + a) * 10 + b) ∙ omega arith;
      behind-is = ap₂ (λ (n : ℕ) (l : List ℕ). drop n l) s p;
    }

count-read : (N : ℕ) (k : List ℕ) → N ≤ max_strains → CountIs N (decimal N ++ (10 ∷ k)) (10 ∷ k)
count-read N k few = by_cases (dec_lt N 10)
    (λ h. rw (decimal-small N h) (one-digit N k h))
    (λ h. rw (decimal_step N (omega arith) (omega arith), decimal-small (N / 10) (omega arith))
    (subst (λ (n : ℕ). CountIs n ((48 + N / 10) ∷ (48 + N % 10) ∷ 10 ∷ k) (10 ∷ k)) (omega arith) (two_digits (N / 10) (N % 10) k (omega arith) (omega arith))))

-- ---- what passes
pub record Writable (N : ℕ) (ds names : List ℕ) : Type 0 where
  pub three : min_strains ≤ N
  pub few : N ≤ max_strains
  pub whole : length ds ≡ pair_count N
  pub near : (k : ℕ) → k < length ds → known (get_or ds k 0) ≤ max_distance
  pub named : length names ≡ name_size * N
  pub shown : (k : ℕ) → k < length names → name_out (get_or names k 0) ≡ false

pub writable : (N : ℕ) (ds names : List ℕ) → matter_tests N ds names ≡ pass → Writable N ds names
writable N ds names ok =
    let a = or_else_pass (test 4 (names_short N names)) (matrix_tests N ds or_else test 17 (name_byte_out names)) ok in
    let b = or_else_pass (matrix_tests N ds) (test 17 (name_byte_out names)) a.1 in
    let c = or_else_pass (test 4 (count_out N ds)) (test 6 (strains_out N) or_else test 7 (distance_out ds)) b.0 in
    let d = or_else_pass (test 6 (strains_out N)) (test 7 (distance_out ds)) c.1 in
    let s = or_none (ltb N min_strains) (ltb max_strains N) (test-pass 6 (strains_out N) d.0) in
    record {
      three = ltb-false N min_strains s.0;
      few = ltb-false max_strains N s.1;
      whole = eqb-true (length ds) (pair_count N) (not-false (eqb (length ds) (pair_count N)) (test-pass 4 (count_out N ds) c.0));
      near = λ k h. ltb-false max_distance (known (get_or ds k 0)) (some-none (length ds) (λ k. ltb max_distance (known (get_or ds k 0))) (test-pass 7 (distance_out ds) d.1) k h);
      named = eqb-true (length names) (name_size * N) (not-false (eqb (length names) (name_size * N)) (test-pass 4 (names_short N names) a.0));
      shown = some-none (length names) (λ k. name_out (get_or names k 0)) (test-pass 17 (name_byte_out names) b.1);
    }

-- ---- every row
module _ (N : ℕ) (ds names : List ℕ) (w : Writable N ds names) where
  pub value-near : (i j : ℕ) → known (value_at ds i j) ≤ max_distance
  unfolding known
  value-near i j = by_cases (ℕ_discrete i j)
      (λ e. rw (eq-eqb i j e) (omega arith))
      (λ e. rw (ne_eqb i j e) (by_cases (dec_lt (pair_place i j) (length ds))
      (λ h. w.near (pair_place i j) h)
      (λ h. let z : length ds ≤ pair_place i j = omega arith in rw (get_or-eq_default ds 0 z) (omega arith))))

  value-sym : (i j : ℕ) → value_at ds i j ≡ cond (eqb i j) 0 (value_at ds j i)
  value-sym i j = by_cases (ℕ_discrete i j)
      (λ e. rw (eq-eqb i j e))
      (λ e. rw (ne_eqb i j e, ne_eqb j i (λ q. e (sym q)), pair-place-sym i j))

  abbrev rows : List ℕ
  rows = pieces N (row_written N ds names)

  abbrev later : ℕ → List ℕ
  later i = pieces_from (suc i) (N - suc i) (row_written N ds names)

  row_is : (i : ℕ) → i < N → row_text N rows i ≡ row_written N ds names i ++ later i
  unfolding pieces_from
  row_is i h = let q : i + suc (N - suc i) ≡ N = omega arith in
      ap (λ (n : ℕ). row_text N (pieces n (row_written N ds names)) i) (sym q) ∙ rows_are N ds names value-near i (suc (N - suc i))

  rows_end : row_text N rows N ≡ []
  unfolding pieces_from
  rows_end = let q : N + 0 ≡ N = omega arith in ap (λ (n : ℕ). row_text N (pieces n (row_written N ds names)) N) (sym q) ∙ rows_are N ds names value-near N 0

  rows-good : rows_bad N rows ≡ false
  unfolding rows_bad
  rows-good = none_or
      (some-no N (λ i. row_bad N (row_text N rows i)) (λ i h. ap (row_bad N) (row_is i h)
      ∙ row-good N ds names value-near i (later i) (λ m l. w.shown (name_size * i + m) (omega (arith, w.named)))))
      (ap (λ (l : List ℕ). not (eqb (length l) 0)) rows_end)

  rows_in : decimals_out N rows ≡ false
  unfolding decimals_out
  rows_in = some-no N (λ i. some N (λ j. cell_out (cell_at N rows i j))) (λ i h. some-no N (λ j. cell_out (cell_at N rows i j))
      (λ j l. ap (λ (r : List ℕ). cell_out (cell_text (cells_of r) j)) (row_is i h) ∙ row_in N ds names value-near i (later i) j l))

  entries_are : (i j : ℕ) → i < N → j < N → entry_at N rows i j ≡ value_at ds i j
  unfolding entry_at
  entries_are i j h l = ap (λ (r : List ℕ). cell_entry (cell_text (cells_of r) j)) (row_is i h) ∙ row_are N ds names value-near i (later i) j l

  halves-good : halves_out N (entry_at N rows) ≡ false
  unfolding halves_out
  halves-good = some-no N (λ i. some N (λ j. not (eqb (entry_at N rows i j) (cond (eqb i j) 0 (entry_at N rows j i))))) (λ i h.
      some-no N (λ j. not (eqb (entry_at N rows i j) (cond (eqb i j) 0 (entry_at N rows j i)))) (λ j l.
      ap not (eq-eqb (entry_at N rows i j) (cond (eqb i j) 0 (entry_at N rows j i))
      (entries_are i j h l ∙ value-sym i j ∙ ap (cond (eqb i j) 0) (sym (entries_are j i l h))))))

  distances-back : distances_read N (entry_at N rows) ≡ ds
  distances-back = sym (table_is 0 (λ k. entry_at N rows (pair_at k).0 (pair_at k).1) (pair_count N) ds w.whole (λ k h.
      let at = stands_at k in let up : (pair_at k).1 < N = place-onto N k h in let low : (pair_at k).0 < N = omega (arith, at.rising) in
      let e : eqb (pair_at k).0 (pair_at k).1 ≡ false = ne_eqb (pair_at k).0 (pair_at k).1 (λ q. omega (arith, at.rising)) in
      sym (entries_are (pair_at k).0 (pair_at k).1 low up
      ∙ ap (λ (q : Bool). cond q 0 (get_or ds (pair_place (pair_at k).0 (pair_at k).1) 0)) e
      ∙ ap (λ (n : ℕ). get_or ds n 0) (pair-place-up (pair_at k).0 (pair_at k).1 at.rising ∙ at.there))))

  names-back : names_read N rows ≡ names
  names-back = sym (table_is 0 (λ k. get_or (row_text N rows (k / name_size)) (k % name_size) 0) (name_size * N) names w.named (λ k h.
      let q : name_size * (k / name_size) + k % name_size ≡ k = omega arith in let i : k / name_size < N = omega arith in
      sym (ap (λ (l : List ℕ). get_or l (k % name_size) 0) (row_is (k / name_size) i)
      ∙ row-name N ds names value-near (k / name_size) (later (k / name_size)) (k % name_size) (omega arith)
      ∙ ap (λ (n : ℕ). get_or names n 0) q)))

  -- ---- the whole text
  abbrev text : List ℕ
  text = text_of N ds names

  counted : CountIs N text (10 ∷ rows)
  unfolding text_of
  counted = count-read N rows w.few

  rows-of : rows_of text ≡ rows
  rows-of = ap next_line counted.behind-is ∙ line-next rows

  passes : read_tests text (length ds) (length names) ≡ pass
  passes = rw (counted.count-is, rows-of)
      (pass_or_else (pass_or_else (pass-test 17 (none_or (le-ltb max_text (length text) (omega (arith, text-length N ds names w.few))) counted.some-digits))
      (pass_or_else (pass-test 6 (none_or (le-ltb N min_strains w.three) (le-ltb max_strains N w.few)))
      (pass_or_else (pass-test 17 (none_or (ap end_bad counted.behind-is ∙ line-ended rows) rows-good))
      (pass_or_else (pass-test 18 rows_in) (pass-test 19 halves-good)))))
      (pass-test 15 (none_or (ap not (eq-eqb (length ds) (pair_count N) w.whole)) (ap not (eq-eqb (length names) (name_size * N) w.named)))))

-- the text of a matrix and names that pass is read, and what is read of it is that matrix and those names
pub record Back (N : ℕ) (ds names : List ℕ) : Type 0 where
  pub answer : read_tests (text_of N ds names) (length ds) (length names) ≡ pass
  pub same : Reads (text_of N ds names) ds names

pub round_trip : (N : ℕ) (ds names : List ℕ) → matter_tests N ds names ≡ pass → Back N ds names
round_trip N ds names ok = let w = writable N ds names ok in record {
  answer = passes N ds names w;
  same = record {
    distances_are = rw ((counted N ds names w).count-is, rows-of N ds names w) (sym (distances-back N ds names w));
    names_are = rw ((counted N ds names w).count-is, rows-of N ds names w) (sym (names-back N ds names w));
  };
}
