-- The tables in their room are the tables of the row: what stands at their front is it (`parents_are`, `numerators_are`), cut lengths pass
-- and fail like the lengths themselves (`cut-tests`), and are the lengths where they pass (`cut_exact`); a strain's entry is 0 exactly where
-- its name is not used (`entry-unused`).
use mathlib.Core.Path.{◌≡◌, refl, sym, ◌∙◌, ap, ap₂}
use mathlib.Core.Bool.{Bool, true, false, cond}
use mathlib.Core.List.{List, map}
use Prim.Native.Nat.{ℕ, suc, ◌+◌, ◌-◌, ◌*◌, ◌≤◌, ◌<◌}
use native.Mathlib.Decide.{dec_lt}
use native.Mathlib.Omega.{arith}
use borrow.Author.Tests.{lt-ltb, le-ltb, ltb-false}
use lib.Dec.{ltb}
use lib.IntN.{ℤ, pos, negsuc, nat_abs}
use lib.ListN.{length, get_or, take, length-map, get_or-map}
use lib.Seq.{get_or-take, ext_get_or, length-take-le}
use Rattle.exact.specs.Table.{table}
use Rattle.exact.proofs.Decide.{by_cases}
use Rattle.exact.proofs.Fill.{length-table, get_or_table_const, table_is}
use Rattle.exact.proofs.Sign.{nat_abs_neg}
use Rattle.verdict.specs.Answer.{Answer, pass, fault, test, at_first, ◌or_else◌}
use Rattle.verdict.specs.declared.Place.TheVariants.{Nowhere, Edge}
use Rattle.verdict.proofs.Answers.{refuses, at_first_cong, or_else_pass, first-pass, or_none}
use Rattle.verdict.proofs.Table.{some-none}
use Rattle.matrix.specs.Limits.{min_strains, max_strains}
use Rattle.matrix.specs.Tests.{strains_out}
use Rattle.tree_theory.specs.Limits.{max_edges}
use Rattle.tree_theory.specs.Tests.{tree_tests}
use Rattle.lengths.specs.Limits.{max_numerator}
use Rattle.lengths.specs.Tests.{lengths_tests, numerator_out, edges_out, denominator_out}
use Rattle.digits.specs.Digits.{most, at_most}
use Rattle.digits.proofs.Reading.{low-cut, high_cut}
use Rattle.newick_text.specs.Length.{value_of}
use Rattle.newick_text.specs.Tree.{Row, node, tally}
use Rattle.newick_text.specs.Table.{after, row_after, filled}
use Rattle.newick_text.specs.Tests.{thousand, edges_in, parents_in, numerators_in, names_wrong, row_tests}
use Rattle.newick_text.proofs.Counting.{rows-number}
use Rattle.newick_text.proofs.Filling.{filled-length, filled-map, filled_cong, take-along, map-along, Marks, row-marks}
use Rattle.newick_text.proofs.Using.{uses_of}
use Rattle.newick_words.specs.Words.{cut}
use Rattle.newick_words.proofs.Words.{cut_in}
use Rattle.newick_fill.specs.Fill.{byte_of, parent_entry, length_entry}
use Rattle.newick_survey.specs.Text.{table_tests}

-- the front of a table of one value is such a table
front-table : {A : Type 0} (K n : ℕ) (a : A) → K ≤ n → take K (table n (λ _. a)) ≡ table K (λ _. a)
front-table K n a h = table_is a (λ _. a) K (take K (table n (λ _. a)))
    (length-take-le K (table n (λ _. a)) (omega (arith, length-table n (λ _. a))))
    (λ k l. get_or-take K (table n (λ _. a)) k a l ∙ get_or_table_const n a k)

map-table : (K : ℕ) → map cut (table K (λ _. pos 0)) ≡ table K (λ _. pos 0)
unfolding cut
map-table K = table_is (pos 0) (λ _. pos 0) K (map cut (table K (λ _. pos 0)))
    (length-map (table K (λ _. pos 0)) cut ∙ length-table K (λ _. pos 0))
    (λ k l. get_or-map cut (table K (λ _. pos 0)) k (pos 0) ∙ ap cut (get_or_table_const K (pos 0) k))

byte-is : (v : ℕ) → v ≤ max_edges → byte_of v ≡ v
byte-is v h = rw (lt-ltb v 256 (omega arith))

-- ---- cut lengths
cut_abs : (z : ℤ) → nat_abs (cut z) ≡ at_most (nat_abs z)
unfolding cut
cut_abs (pos n) = refl
cut_abs (negsuc n) = nat_abs_neg (pos (at_most (suc n)))

out-alike : (z : ℤ) → ltb max_numerator (nat_abs (cut z)) ≡ ltb max_numerator (nat_abs z)
out-alike z = by_cases (dec_lt most (nat_abs z))
    (λ h. ap (ltb max_numerator) (cut_abs z ∙ high_cut (nat_abs z) h) ∙ lt-ltb max_numerator most (omega arith) ∙ sym (lt-ltb max_numerator (nat_abs z) (omega arith)))
    (λ h. ap (ltb max_numerator) (cut_abs z ∙ low-cut (nat_abs z) (omega arith)))

module _ (K : ℕ) (ns : List ℤ) where
  pub cut-tests : lengths_tests K thousand (map cut ns) ≡ lengths_tests K thousand ns
  unfolding cut
  cut-tests = let e : length (map cut ns) ≡ length ns = length-map ns cut in
      rw e (ap (λ (a : Answer). test 11 (edges_out K ns) or_else test 12 (denominator_out thousand) or_else a)
      (at_first_cong (length ns) (numerator_out (map cut ns)) (numerator_out ns) (λ v. fault 13 (Edge v)) (λ v. fault 13 (Edge v))
      (λ v l. ap (λ (z : ℤ). ltb max_numerator (nat_abs z)) (get_or-map cut ns v (pos 0)) ∙ out-alike (get_or ns v (pos 0))) (λ v l. refl)))

  pub cut_exact : lengths_tests K thousand ns ≡ pass → map cut ns ≡ ns
  unfolding cut
  cut_exact h =
      let a = or_else_pass (test 11 (edges_out K ns)) (test 12 (denominator_out thousand) or_else at_first (length ns) (numerator_out ns) (λ v. fault 13 (Edge v))) h in
      let b = or_else_pass (test 12 (denominator_out thousand)) (at_first (length ns) (numerator_out ns) (λ v. fault 13 (Edge v))) a.1 in
      let n = some-none (length ns) (numerator_out ns) (first-pass (length ns) (numerator_out ns) (λ v. fault 13 (Edge v)) (λ v. refuses 13 (Edge v)) b.1) in
      ext_get_or (pos 0) (map cut ns) ns (length-map ns cut)
      (λ v l. get_or-map cut ns v (pos 0) ∙ same (get_or ns v (pos 0)) (ltb-false max_numerator (nat_abs (get_or ns v (pos 0))) (n v (omega (arith, l, length-map ns cut)))))
    where
      same : (z : ℤ) → nat_abs z ≤ max_numerator → cut z ≡ z
      same z g = cut_in z (omega (arith, cut_abs z, low-cut (nat_abs z) (omega arith)))

-- ---- room for so many edges, or not
module _ (N K : ℕ) (p : List ℕ) (x : List ℤ) where
  abbrev asked : Answer
  asked = tree_tests N (take K p) or_else lengths_tests K thousand (take K x)

  pub tests-many : max_edges < K → test 8 true ≡ table_tests N K p x
  tests-many h = sym (ap (λ (q : Bool). cond q (test 8 true) asked) (lt-ltb max_edges K h))

  pub tests-few : K ≤ max_edges → table_tests N K p x ≡ asked
  tests-few h = ap (λ (q : Bool). cond q (test 8 true) asked) (le-ltb max_edges K h)

-- ---- the tables of a row
module _ (find : List ℕ → ℕ) (N : ℕ) (r : Row) where
  abbrev K : ℕ
  K = edges_in find N r

  abbrev pub P : List ℕ
  P = filled find parent_entry (node r) N (table max_edges (λ _. 0))

  abbrev pub X : List ℤ
  X = filled find length_entry (node r) N (table max_edges (λ _. pos 0))

  module _ (few : K ≤ max_edges) where
    pub parents_are : take K P ≡ parents_in find N r
    unfolding after
    parents_are = filled-map find parent_entry (λ (x : ℕ). x) (take K) (take-along K) (node r) N (table max_edges (λ _. 0))
        ∙ ap (filled find parent_entry (node r) N) (front-table K max_edges 0 few)
        ∙ filled_cong find parent_entry (λ v l. v) K (λ v l h. byte-is v (omega arith)) (node r) N (table K (λ _. 0)) (omega arith)

    cut_are : take K X ≡ map cut (numerators_in find N r)
    cut_are = filled-map find length_entry (λ (x : ℤ). x) (take K) (take-along K) (node r) N (table max_edges (λ _. pos 0))
        ∙ ap (filled find length_entry (node r) N) (front-table K max_edges (pos 0) few ∙ sym (map-table K))
        ∙ sym (filled-map find (λ v l. value_of l) cut (map cut) (map-along cut) (node r) N (table K (λ _. pos 0)))

    pub numerators_are : lengths_tests K thousand (numerators_in find N r) ≡ pass → take K X ≡ numerators_in find N r
    numerators_are h = cut_are ∙ cut_exact K (numerators_in find N r) h

    few-tests : (tree_tests N (take K P) or_else lengths_tests K thousand (take K X)) ≡ (tree_tests N (parents_in find N r) or_else lengths_tests K thousand (numerators_in find N r))
    few-tests = ap₂ (λ (a b : Answer). a or_else b) (ap (tree_tests N) parents_are) (ap (lengths_tests K thousand) cut_are ∙ cut-tests K (numerators_in find N r))

  parents-size : length (parents_in find N r) ≡ K
  parents-size = filled-length find (λ v l. v) (node r) N (table K (λ _. 0)) ∙ length-table K (λ _. 0)

  -- more edges than any tree has
  many-tests : strains_out N ≡ false → max_edges < K → (b : Answer) → (tree_tests N (parents_in find N r) or_else b) ≡ test 8 true
  many-tests h many b =
      let s = or_none (ltb N min_strains) (ltb max_strains N) h in
      let few : N ≤ max_strains = ltb-false max_strains N s.1 in
      rw (parents-size, h, lt-ltb (2 * N - 2) (K + 1) (omega arith), le-ltb (K + 1) (N + 1) (omega arith))

  -- 29 does not apply: the tests of the tables are those of the row
  pub tests_are : strains_out N ≡ false → names_wrong find N r ≡ false → table_tests N K P X ≡ row_tests find N r
  tests_are h w = by_cases (dec_lt max_edges K)
      (λ many. sym (tests-many N K P X many) ∙ sym (many-tests h many (lengths_tests K thousand (numerators_in find N r))) ∙ named)
      (λ few. tests-few N K P X (omega arith) ∙ few-tests (omega arith) ∙ named)
    where
      named : (tree_tests N (parents_in find N r) or_else lengths_tests K thousand (numerators_in find N r)) ≡ row_tests find N r
      named = sym (ap (λ (q : Bool). test 29 q or_else tree_tests N (parents_in find N r) or_else lengths_tests K thousand (numerators_in find N r)) w)

  -- what passes is in the tables
  pub passes-few : strains_out N ≡ false → row_tests find N r ≡ pass → K ≤ max_edges
  passes-few h ok = by_cases (dec_lt max_edges K)
      (λ many. let a = or_else_pass (test 29 (names_wrong find N r)) (tree_tests N (parents_in find N r) or_else lengths_tests K thousand (numerators_in find N r)) ok in
      absurd (refuses 8 Nowhere (sym (many-tests h many (lengths_tests K thousand (numerators_in find N r))) ∙ a.1)))
      (λ few. omega arith)

  pub passes-lengths : row_tests find N r ≡ pass → lengths_tests K thousand (numerators_in find N r) ≡ pass
  passes-lengths ok =
      let a = or_else_pass (test 29 (names_wrong find N r)) (tree_tests N (parents_in find N r) or_else lengths_tests K thousand (numerators_in find N r)) ok in
      (or_else_pass (tree_tests N (parents_in find N r)) (lengths_tests K thousand (numerators_in find N r)) a.1).1

  -- an entry is 0 exactly where the strain's name is not used
  module _ (i : ℕ) (low : i < N) (few : N ≤ max_strains) where
    some-entry : (v : ℕ) (l : List ℕ) → 1 ≤ v → 1 ≤ byte_of v
    some-entry v l h = by_cases (dec_lt v 256) (λ g. rw (lt-ltb v 256 g) h) (λ g. rw (le-ltb v 256 (omega arith)) (omega arith))

    marks : Marks (get_or (table max_edges (λ _. 0)) i 0 + uses_of find N i (node r)) (get_or P i 0)
    unfolding filled tally
    marks =
        let m = row-marks find parent_entry some-entry i r (row_after r N) N (table max_edges (λ _. 0)) (omega (arith, rows-number r N)) low (omega (arith, length-table {A = ℕ} max_edges (λ _. 0))) in
        record { yes = λ w. m.yes (omega (arith, w)); no = λ w. m.no (omega (arith, w)) }

    blank : ◌≡◌ {A = ℕ} (get_or (table max_edges (λ _. 0)) i 0) 0
    blank = get_or_table_const max_edges 0 i

    pub entry-unused : get_or P i 0 ≡ 0 → uses_of find N i (node r) ≡ 0
    entry-unused e = by_cases (dec_lt 0 (uses_of find N i (node r))) (λ h. absurd (omega (arith, e, marks.yes (omega (arith, h))))) (λ h. omega arith)

    pub entry-used : (get_or P i 0 ≡ 0 → ⊥) → 1 ≤ uses_of find N i (node r)
    entry-used n = by_cases (dec_lt 0 (uses_of find N i (node r))) (λ h. h) (λ h. absurd (n (marks.no (omega (arith, h, blank)))))
