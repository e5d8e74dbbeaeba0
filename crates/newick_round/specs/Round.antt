-- There and back (RULES, Trees in text): reading what was written, and writing what was read.
use Rattle.std.specs.Prelude.{◌≡◌, List, ℕ, ℤ, length}
use Rattle.verdict.specs.Answer.{Answer, pass}
use Rattle.records.specs.Form.{head_size}
use Rattle.names.specs.Record.{record_count}
use Rattle.newick_text.specs.Tree.{max_text}
use Rattle.newick_write.specs.Answers.{root_of, tree_text, write_tests}

-- the text of names, a table of parents and thousandths
abbrev pub written_text : List ℕ → List ℕ → List ℤ → List ℕ
written_text names ps ms = tree_text names head_size (record_count names) ps ms

-- what the reader answered, with the tables q and y in its buffers, for a text that the writer wrote of ps and ms: it takes the text; the
-- tree of its tables is the tree that was written, with its thousandths (no inner vertex has a number in a tree of text, so the two may
-- differ in those numbers alone); and they may be written again, as the same text
pub record Back (names ps : List ℕ) (ms : List ℤ) (a : Answer) (q : List ℕ) (y : List ℤ) : Type 0 where
  pub taken : a ≡ pass
  pub edges : length q ≡ length ps
  pub same : root_of names head_size (record_count names) q y ≡ root_of names head_size (record_count names) ps ms
  pub writable : write_tests names q y max_text ≡ pass
  pub text : written_text names q y ≡ written_text names ps ms
