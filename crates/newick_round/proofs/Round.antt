-- The text that is written has a row; that row passes every test of a text; and the tree of its tables is the tree that was written.
use mathlib.Core.Path.{◌≡◌, refl, sym, ◌∙◌, ap}
use mathlib.Core.Bool.{true, false, not}
use mathlib.Core.List.{List, [], ◌∷◌}
use Prim.Native.Nat.{ℕ, ◌^◌, ◌<◌, ◌≤◌}
use native.Mathlib.Omega.{arith}
use borrow.Author.Tests.{eq-eqb, le-ltb}
use lib.Dec.{eqb}
use lib.IntN.{ℤ, nat_abs}
use lib.ListN.{length}
use Rattle.exact.specs.Table.{table, entry_of}
use Rattle.exact.proofs.Fill.{length-table}
use Rattle.verdict.specs.Answer.{Answer, pass, test, ◌or_else◌}
use Rattle.verdict.proofs.Answers.{or_else_pass, pass_or_else, pass-test, none_or}
use Rattle.matrix.specs.Limits.{min_strains, max_strains}
use Rattle.tree_theory.specs.Chain.{parent_of}
use Rattle.tree_theory.specs.Allowed.{Allowed}
use Rattle.tree_theory.specs.Tests.{tree_tests}
use Rattle.tree_theory.proofs.Checked.{allowed→}
use Rattle.lengths.specs.Proper.{Proper}
use Rattle.lengths.specs.Tests.{lengths_tests}
use Rattle.lengths.proofs.Checked.{→proper}
use Rattle.records.specs.Form.{head_size}
use Rattle.records.specs.Names.{max_name}
use Rattle.names.specs.Name.{is_name}
use Rattle.names.specs.Record.{name_of, record_count, names_tests}
use Rattle.names.proofs.Laws.{name-long, names-formed, place-of, place-has, lent-formed}
use Rattle.newick_text.specs.Length.{length_text, value_of}
use Rattle.newick_text.specs.Tree.{Row, node, Text, text_of, max_text, size_of, tally}
use Rattle.newick_text.specs.Tests.{thousand, edges_in, parents_in, numerators_in, names_wrong, row_tests, room_out}
use Rattle.newick_text.proofs.Filling.{filled-length}
use Rattle.newick_text.proofs.Texts.{row-size}
use Rattle.newick_text.proofs.Trees.{node-is}
use Rattle.newick_text.proofs.Planted.{tree-size, tree-formed}
use Rattle.newick_text.proofs.Thousandths.{text-length, text-value}
use Rattle.newick_text.proofs.Unique.{one-row}
use Rattle.newick_text.proofs.Round.{edges-again, row_read}
use Rattle.newick_text.proofs.Accepted.{row-passes}
use Rattle.newick_put.specs.Put.{widest_length}
use Rattle.newick_put.proofs.Putting.{length-widest}
use Rattle.newick_survey.specs.Text.{find_in, head_tests, Answered, by_names, by_form, by_row}
use Rattle.newick_read.specs.Answers.{read_tests, Reads}
use Rattle.newick_write.specs.Answers.{root_of, write_tests}
use Rattle.newick_round.specs.Round.{written_text, Back}

module _ (names ps : List ℕ) (ms : List ℤ) (room : ℕ) (passed : write_tests names ps ms room ≡ pass) where
  abbrev N : ℕ
  N = record_count names

  abbrev K : ℕ
  K = length ps

  abbrev name : ℕ → List ℕ
  name = name_of names head_size

  abbrev long : ℕ → List ℕ
  long w = length_text (entry_of ms w)

  abbrev row : Row
  row = root_of names head_size N ps ms

  abbrev text : List ℕ
  text = written_text names ps ms

  -- ---- what passes
  parts : (names_tests names ≡ pass) × (tree_tests N ps ≡ pass) × (lengths_tests K thousand ms ≡ pass)
  parts =
      let fits = test 15 (not (eqb room max_text)) in
      let q = or_else_pass (names_tests names) (tree_tests N ps or_else lengths_tests K thousand ms or_else fits) passed in
      let r = or_else_pass (tree_tests N ps) (lengths_tests K thousand ms or_else fits) q.1 in
      (q.0, r.0, (or_else_pass (lengths_tests K thousand ms) fits r.1).0)

  ok : Allowed N K (parent_of ps)
  ok = allowed→ N ps parts.1

  lengths : Proper K thousand ms
  lengths = →proper K thousand ms parts.2

  named : (i : ℕ) → i < N → is_name (name i) ≡ true
  named = names-formed names head_size N (lent-formed names parts.0)

  finds : (i : ℕ) → i < N → find_in names (name i) ≡ i
  finds = place-of names head_size N (lent-formed names parts.0)

  knows : (l : List ℕ) → find_in names l < N → name (find_in names l) ≡ l
  knows l = place-has names head_size N l

  small : (i : ℕ) → i < K → nat_abs (entry_of ms i) < 2 ^ 64
  small i h = omega (arith, lengths.near i (omega (arith, lengths.whole)))

  plain : (i : ℕ) → i < K → length_text (value_of (long i)) ≡ long i
  plain i h = ap length_text (text-value (entry_of ms i) (small i h))

  near : (i : ℕ) → i < K → nat_abs (value_of (long i)) ≤ 100000000000
  near i h = rw (text-value (entry_of ms i) (small i h)) (lengths.near i (omega (arith, lengths.whole)))

  -- ---- the text has the row
  short : length text ≤ max_text
  unfolding tally
  short =
      let size = tree-size ps name long N K ok max_name widest_length (omega arith) (λ i h. (name-long (name i) (named i h)).1) (λ i h. length-widest (entry_of ms i)) in
      let root = ap size_of (node-is ps name long N K (omega (arith, ok.edges))) in
      omega (arith, row-size row 40 (59 ∷ []), size, root, ok.most, ok.few)

  pub text-row : Text text row
  text-row = record { short = short; text = refl; formed = tree-formed ps name long N K ok named (λ i h. text-length (entry_of ms i) (small i h)) }

  -- ---- it is taken
  head : head_tests names ≡ pass
  head = pass_or_else parts.0 (pass-test 6 (none_or (le-ltb N min_strains ok.three) (le-ltb max_strains N ok.few)))

  tests : row_tests (find_in names) N row ≡ pass
  tests = row-passes ps name long N K ok (find_in names) finds knows plain near

  edges : edges_in (find_in names) N row ≡ K
  edges = edges-again ps name long N K ok (find_in names) finds knows plain

  module _ (p q : List ℕ) (x y : List ℤ) (fits : length p ≡ K) (fits' : length x ≡ K) (a : Answer) (r : Reads names text p q x y a) where
    roomy : room_out (find_in names) N row (length p) (length x) ≡ false
    roomy = simp (eq-eqb (length p) (edges_in (find_in names) N row) (fits ∙ sym edges), eq-eqb (length x) (edges_in (find_in names) N row) (fits' ∙ sym edges))

    taken : a ≡ pass
    taken = go r.answer
      where
        go : Answered names text (read_tests names p x) a → a ≡ pass
        go (by_names n e) = absurd (n head)
        go (by_form h n e) = absurd (n row text-row)
        go (by_row h z t e) = e ∙ ap (read_tests names p x) (one-row text z row t text-row) ∙ pass_or_else tests (pass-test 15 roomy)

    parents_are : q ≡ parents_in (find_in names) N row
    parents_are = (r.filled taken row text-row).0

    lengths_are : y ≡ numerators_in (find_in names) N row
    lengths_are = (r.filled taken row text-row).1

    size : length q ≡ edges_in (find_in names) N row
    size = ap length parents_are ∙ filled-length (find_in names) (λ v l. v) (node row) N (table (edges_in (find_in names) N row) (λ _. 0)) ∙ length-table {A = ℕ} (edges_in (find_in names) N row) (λ _. 0)

    same-root : root_of names head_size N q y ≡ row
    same-root = rw (size, parents_are, lengths_are) (row_read ps name long N K ok (find_in names) finds knows plain)

    may_write : write_tests names q y max_text ≡ pass
    may_write =
        let tree = tree_tests N (parents_in (find_in names) N row) in
        let asked = lengths_tests (edges_in (find_in names) N row) thousand (numerators_in (find_in names) N row) in
        let z = or_else_pass tree asked (or_else_pass (test 29 (names_wrong (find_in names) N row)) (tree or_else asked) tests).1 in
        let tree-passes : tree_tests N q ≡ pass = rw parents_are z.0 in
        let lengths-pass : lengths_tests (length q) thousand y ≡ pass = rw (size, lengths_are) z.1 in
        pass_or_else parts.0 (pass_or_else tree-passes (pass_or_else lengths-pass refl))

    pub back : Back names ps ms a q y
    back = record { taken = taken; edges = size ∙ edges; same = same-root; writable = may_write; text = ap text_of same-root }
