-- The names record of a sheet, lent by itself: it passes, it has the names of the sheet, and so the text that is written of a fitted sheet is the text
-- of that record, the tree and the thousandths.
use mathlib.Core.Path.{◌≡◌, refl, sym, ◌∙◌, ap, ap₂}
use mathlib.Core.Bool.{Bool, false, not, ◌||◌}
use mathlib.Core.List.{List}
use Prim.Native.Nat.{ℕ, zero, suc, ◌+◌, ◌*◌, ◌<◌, ◌≤◌}
use native.Mathlib.Omega.{arith}
use borrow.Author.Tests.{eq-eqb, le-ltb}
use lib.IntN.{nat_abs}
use lib.ListN.{length, get_or, take, drop, length-drop}
use lib.Seq.{get_or-drop, drop-drop}
use Rattle.exact.specs.Table.{entry_of}
use Rattle.exact.proofs.Fill.{length-table}
use Rattle.verdict.specs.Answer.{pass, test, ◌or_else◌}
use Rattle.verdict.specs.declared.Place.TheVariants.{Byte}
use Rattle.verdict.proofs.Answers.{or_else_pass, pass_or_else, pass-test, pass-test_at}
use Rattle.verdict.proofs.Table.{some_cong}
use Rattle.endian.specs.Bytes.{number}
use Rattle.records.specs.Names.{name_start}
use Rattle.records.specs.Form.{head_size, names_kind, body_at, kind_at, end_at, start_of, names_at, record_tests, form_tests}
use Rattle.records.proofs.Names.{name-first, name-next, count-ends}
use Rattle.records.proofs.InTurn.{next_start}
use Rattle.records.proofs.Formed.{form-ends, kind-due, names-many, names-end}
use Rattle.names.specs.Name.{is_name}
use Rattle.names.specs.Record.{name_of, name_out, names_out, record_count, names_tests}
use Rattle.digits.specs.Digits.{same}
use Rattle.reading.specs.Holds.{strains_of, distances_of, parents_of, denominator_of, numerators_of}
use Rattle.reading.specs.Tests.{strains_differ, held_tests}
use Rattle.verdict.specs.declared.Rule.TheVariants.{Plain}
use Rattle.tree_theory.specs.Chain.{parent_of}
use Rattle.tree_theory.specs.Allowed.{Allowed}
use Rattle.tree_theory.specs.Tests.{tree_tests}
use Rattle.tree_theory.proofs.Checked.{→allowed}
use Rattle.lengths.specs.Limits.{max_numerator}
use Rattle.lengths.specs.Proper.{Proper}
use Rattle.lengths.proofs.Checked.{proper→}
use Rattle.matrix.specs.Tests.{matrix_tests}
use Rattle.fit_theory.specs.Quantities.{rounded_of}
use Rattle.fit_theory.specs.Tests.{judge_tests}
use Rattle.fit_theory.proofs.Exactly.{→stands}
use Rattle.newick_text.specs.Length.{length_text}
use Rattle.newick_text.specs.Tree.{text_of, max_text}
use Rattle.newick_text.specs.Tests.{thousand}
use Rattle.newick_text.proofs.Trees.{children_cong}
use Rattle.newick_write.specs.Answers.{root_of, write_tests}
use Rattle.sheet_names.specs.Labels.{names_from, label_tests, named_tests}
use Rattle.newick_sheet.specs.Named.{thousandths_of, named_text}
use Rattle.newick_round.specs.Round.{written_text}
use Rattle.sheet_names.proofs.Labels.{label_form}

-- ---- bytes from a place on
module _ (s : List ℕ) (a : ℕ) where
  abbrev rest : List ℕ
  rest = drop a s

  byte-there : (i : ℕ) → get_or rest i 0 ≡ get_or s (a + i) 0
  byte-there i = get_or-drop a s i 0

  start-there : (from i : ℕ) → a + name_start rest from i ≡ name_start s (a + from) i
  start-there from zero = omega (arith, name-first rest from, name-first s (a + from))
  start-there from (suc i) =
      let ih = start-there from i in
      let byte : get_or rest (name_start rest from i) 0 ≡ get_or s (name_start s (a + from) i) 0 = byte-there (name_start rest from i) ∙ ap (λ (x : ℕ). get_or s x 0) ih in
      omega (arith, name-next rest from i, name-next s (a + from) i, ih, byte)

  name-there : (from i : ℕ) → name_of rest from i ≡ name_of s (a + from) i
  unfolding name_of
  name-there from i =
      let start = start-there from i in
      let byte : get_or rest (name_start rest from i) 0 ≡ get_or s (name_start s (a + from) i) 0 = byte-there (name_start rest from i) ∙ ap (λ (x : ℕ). get_or s x 0) start in
      let place : a + (name_start rest from i + 1) ≡ name_start s (a + from) i + 1 = omega (arith, start) in
      let behind : drop (name_start rest from i + 1) rest ≡ drop (name_start s (a + from) i + 1) s = drop-drop (name_start rest from i + 1) a s ∙ ap (λ (x : ℕ). drop x s) place in
      ap₂ (λ (n : ℕ) (l : List ℕ). take n l) byte behind

  out-there : (from n : ℕ) → names_out rest from n ≡ names_out s (a + from) n
  unfolding names_out
  out-there from n = some_cong n (name_out rest from) (name_out s (a + from)) (λ i _. ap₂ (λ (x y : Bool). x || y)
      (ap (λ (l : List ℕ). not (is_name l)) (name-there from i))
      (some_cong i (λ j. same (name_of rest from j) (name_of rest from i)) (λ j. same (name_of s (a + from) j) (name_of s (a + from) i)) (λ j _. ap₂ same (name-there from j) (name-there from i))))

  number-there : (k at : ℕ) → number k rest at ≡ number k s (a + at)
  unfolding number
  number-there zero at = refl
  number-there (suc k) at =
      let ih = number-there k (suc at) in
      let next : a + suc at ≡ suc (a + at) = omega arith in
      ap₂ (λ (x y : ℕ). x + 256 * y) (byte-there at) (ih ∙ ap (number k s) next)

-- ---- a sheet with names whose form stands
module _ (s : List ℕ) (passed : label_tests s ≡ pass) where
  abbrev a : ℕ
  a = start_of s 3

  -- its fourth record
  abbrev pub fourth : List ℕ
  fourth = drop a s

  form : form_tests 4 s ≡ pass
  form = (label_form s passed).0

  size : end_at s a ≡ length s
  size = sym (next_start s 3) ∙ form-ends 4 s form

  whole : end_at fourth 0 ≡ length fourth
  whole = let at : a + 0 ≡ a = omega arith in
      omega (arith, number-there s a 4 0 ∙ ap (number 4 s) at, size, length-drop a s)

  ends : name_start fourth head_size (strains_of s) ≡ end_at fourth 0
  ends =
      let here = names-end 4 s form (omega arith) in
      let many = names-many 4 s form (omega arith) in
      let there = start-there s a head_size (strains_of s) in
      let same : name_start s (body_at a) (strains_of s) ≡ length s = ap (name_start s (body_at a)) (sym many) ∙ here ∙ form-ends 4 s form in
      omega (arith, there, same, whole, length-drop a s)

  pub count_same : record_count fourth ≡ strains_of s
  count_same = count-ends fourth head_size (end_at fourth 0) (strains_of s) ends

  pub names_same : (i : ℕ) → name_of fourth head_size i ≡ name_of s (names_from s) i
  names_same i = name-there s a head_size i

  -- it passes by itself
  pub fourth-passes : names_tests fourth ≡ pass
  fourth-passes = pass_or_else record-passes (pass_or_else (pass-test_at 5 (Byte (end_at fourth 0)) (le-ltb (end_at fourth 0) (length fourth) (omega (arith, whole)))) (pass-test 28 formed))
    where
      record-passes : record_tests fourth 0 names_kind ≡ pass
      record-passes =
          let kind : kind_at fourth 0 ≡ names_kind = number-there s a 2 4 ∙ kind-due 4 s form 3 (omega arith) in
          let last : name_start fourth head_size (names_at fourth 0) ≡ end_at fourth 0 = ap (name_start fourth head_size) count_same ∙ ends in
          pass_or_else (pass-test_at 2 (Byte 0) (le-ltb (length fourth) (body_at 0) (omega (arith, whole))))
          (pass_or_else (pass-test_at 2 (Byte 0) (le-ltb (length fourth) (end_at fourth 0) (omega (arith, whole))))
          (pass_or_else (pass-test_at 3 (Byte 0) (ap not (eq-eqb (kind_at fourth 0) names_kind kind)))
          (pass-test_at 4 (Byte 0) (ap not (eq-eqb (name_start fourth head_size (names_at fourth 0)) (end_at fourth 0) last)))))

      formed : names_out fourth head_size (record_count fourth) ≡ false
      formed = ap (names_out fourth head_size) count_same ∙ out-there s a head_size (strains_of s) ∙ (label_form s passed).1

-- ---- a fitted sheet with names
module _ (s : List ℕ) (passed : named_tests s ≡ pass) (near : (i : ℕ) → i < length (parents_of s) → nat_abs (entry_of (thousandths_of s) i) ≤ max_numerator) where
  pub labels : label_tests s ≡ pass
  labels = (or_else_pass (label_tests s) (held_tests Plain s) passed).0

  abbrev names : List ℕ
  names = fourth s labels

  -- its text is the text of its names record, its tree and its thousandths
  pub sheet-text : named_text s ≡ written_text names (parents_of s) (thousandths_of s)
  sheet-text = ap text_of (
      children_cong (parents_of s) (name_of s (names_from s)) (name_of names head_size) (λ w. length_text (entry_of (thousandths_of s) w)) (λ w. length_text (entry_of (thousandths_of s) w)) (strains_of s) (length (parents_of s)) (λ i _. sym (names_same s labels i)) (λ i _. refl)
      ∙ ap (λ (n : ℕ). root_of names head_size n (parents_of s) (thousandths_of s)) (sym (count_same s labels)))

  -- and may be written by the call without a fit
  pub sheet-writable : write_tests names (parents_of s) (thousandths_of s) max_text ≡ pass
  sheet-writable =
      let tree : tree_tests (record_count names) (parents_of s) ≡ pass = ap (λ (n : ℕ). tree_tests n (parents_of s)) (count_same s labels) ∙ tree-passes in
      pass_or_else (fourth-passes s labels) (pass_or_else tree (pass_or_else (proper→ (length (parents_of s)) thousand (thousandths_of s) proper) refl))
    where
      held : held_tests Plain s ≡ pass
      held = (or_else_pass (label_tests s) (held_tests Plain s) passed).1

      allowed : Allowed (strains_of s) (length (parents_of s)) (parent_of (parents_of s))
      allowed =
          let judged = judge_tests Plain (strains_of s) (distances_of s) (parents_of s) (denominator_of s) (numerators_of s) in
          let behind = (or_else_pass (matrix_tests (strains_of s) (distances_of s)) (test 8 (strains_differ s) or_else judged) held).1 in
          (→stands Plain (strains_of s) (distances_of s) (parents_of s) (denominator_of s) (numerators_of s) (or_else_pass (test 8 (strains_differ s)) judged behind).1).fitted.posted.tree

      tree-passes : tree_tests (strains_of s) (parents_of s) ≡ pass
      tree-passes = →allowed (strains_of s) (parents_of s) allowed

      proper : Proper (length (parents_of s)) thousand (thousandths_of s)
      proper = record {
        whole = length-table (length (parents_of s)) (rounded_of (denominator_of s) (numerators_of s));
        few = omega (arith, allowed.most, allowed.few);
        one = omega arith;
        most = omega arith;
        near = λ v h. near v (omega (arith, length-table (length (parents_of s)) (rounded_of (denominator_of s) (numerators_of s))));
      }
