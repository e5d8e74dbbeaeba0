-- The call without a fit (RULES, Trees in text): names, a tree and thousandths, and the text that they are.
use Rattle.std.specs.Prelude.{◌≡◌, false, cond, not, List, ℕ, ◌+◌, ◌≤◌, eqb, ltb, ℤ, length, Result, IfOk, IfErr}
use Rattle.exact.specs.Table.{entry_of}
use Rattle.verdict.specs.declared.Refusal.{Refusal}
use Rattle.verdict.specs.Answer.{Answer, pass, number, answer_of, test, ◌or_else◌}
use Rattle.matrix.specs.Limits.{max_strains}
use Rattle.tree_theory.specs.Tests.{tree_tests}
use Rattle.lengths.specs.Tests.{lengths_tests}
use Rattle.records.specs.Names.{name_start}
use Rattle.records.specs.Form.{head_size}
use Rattle.names.specs.Record.{name_of, names_out, record_count, names_tests}
use Rattle.writing.specs.Text.{Wrote}
use Rattle.newick_text.specs.Length.{length_text}
use Rattle.newick_text.specs.Tree.{Row, text_of, max_text}
use Rattle.newick_text.specs.Table.{children_of}
use Rattle.newick_text.specs.Tests.{thousand}

-- the children of the root: of a tree of n strains whose names stand in s from a place on, with thousandths for lengths
abbrev pub root_of : List ℕ → ℕ → ℕ → List ℕ → List ℤ → Row
root_of s from n ps ms = children_of ps (name_of s from) (λ w. length_text (entry_of ms w)) n (length ps)

-- the text of the tree
abbrev pub tree_text : List ℕ → ℕ → ℕ → List ℕ → List ℤ → List ℕ
tree_text s from n ps ms = text_of (root_of s from n ps ms)

-- what such a text asks: n names of the form within s, an allowed tree, a length for each edge, a buffer of a text's size
pub record Tellable (s : List ℕ) (from n : ℕ) (ps : List ℕ) (ms : List ℤ) (buffer : List ℕ) : Type 0 where
  pub within : name_start s from n ≤ length s
  pub named : names_out s from n ≡ false
  pub allowed : tree_tests n ps ≡ pass
  pub edges : length ps ≤ length ms
  pub room : length buffer ≡ max_text

-- 15: a buffer that is not of a text's size
abbrev pub room_out : ℕ → Answer
room_out room = test 15 (not (eqb room max_text))

-- 2 to 5 and 28 for the names; then the tree and the thousandths as they are asked anywhere: 6, 8, 9 or 16, 10; 11, 13; 15
abbrev pub write_tests : List ℕ → List ℕ → List ℤ → ℕ → Answer
write_tests names ps ms room =
    names_tests names or_else tree_tests (record_count names) ps or_else lengths_tests (length ps) thousand ms or_else room_out room

-- a count of strains up to one more than the most
abbrev pub strains_cut : ℕ → ℕ
strains_cut count = cond (ltb max_strains count) (max_strains + 1) count

-- the answer, and where it passes the count of the names
pub record Judged (names ps : List ℕ) (ms : List ℤ) (room : ℕ) (r : Result ℕ Refusal) : Type 0 where
  pub answer : answer_of r ≡ write_tests names ps ms room
  pub count : IfOk r (λ n. n ≡ record_count names)

-- ---- what a writer hands back, where the matter and the buffer get the answer a
-- the text at the front of the buffer, everything behind it as it was; a refusal leaves the buffer as it was
pub record Told (a : Answer) (text before after : List ℕ) (r : Result ℕ Refusal) : Type 0 where
  pub answer : answer_of r ≡ a
  pub written : IfOk r (λ next. Wrote before after 0 text next)
  pub kept : IfErr r (λ _. after ≡ before)

-- the same with the number, and the length lent beside it
pub record ToldNumber (a : Answer) (text before after : List ℕ) (was is : ℕ) (r : ℕ) : Type 0 where
  pub number_is : r ≡ number a
  pub written : a ≡ pass → Wrote before after 0 text is
  pub kept : (a ≡ pass → ⊥) → (after ≡ before) × (is ≡ was)

-- the call without a fit
abbrev pub WriteAnswer : List ℕ → List ℕ → List ℤ → List ℕ → List ℕ → Result ℕ Refusal → Type 0
WriteAnswer names ps ms before after r = Told (write_tests names ps ms (length before)) (tree_text names head_size (record_count names) ps ms) before after r

abbrev pub NumberAnswer : List ℕ → List ℕ → List ℤ → List ℕ → List ℕ → ℕ → ℕ → ℕ → Type 0
NumberAnswer names ps ms before after was is r = ToldNumber (write_tests names ps ms (length before)) (tree_text names head_size (record_count names) ps ms) before after was is r
