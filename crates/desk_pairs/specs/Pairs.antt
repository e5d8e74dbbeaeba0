-- The pairs of a bench's table, on what is posted and the table that stands in the bench's name.
use Rattle.std.specs.Prelude.{List, [], ℕ, Option, Some, None}
use Rattle.writing.specs.Text.{decimal}
use Rattle.answer_lines.specs.Texts.{by_answer}
use Rattle.pair_lines.specs.Lines.{pairs_text}
use Rattle.desk.specs.declared.Table.{Table}
use Rattle.desk.specs.declared.Posted.{Posted}
use Rattle.desk.specs.declared.Desk.{Desk}
use Rattle.desk.specs.declared.Posting.{Posting}
use Rattle.desk.specs.Held.{matrix_of, tree_of, numerators_of, bench_table, standing_tests}

-- of a table on a posting, each strain called by its number
abbrev pub table_pairs : Posting → Table → List ℕ
table_pairs p t = pairs_text decimal p.n (matrix_of p) (tree_of p) t.d (numerators_of p.edges t)

-- of the table that stands, where one does
abbrev pub its_pairs : Posting → Option Table → List ℕ
its_pairs p None = []
its_pairs p (Some t) = table_pairs p t

abbrev pub shown_pairs : Option Posted → ℕ → List ℕ
shown_pairs None b = []
shown_pairs (Some x) b = its_pairs x.posting (bench_table x b)

-- what is shown to a bench: the pairs of its table, or what it is refused for
abbrev pub pairs_on : Desk → ℕ → List ℕ
pairs_on d b = by_answer (standing_tests d b) (shown_pairs d.posted b)
