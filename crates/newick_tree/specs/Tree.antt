-- What the program prints of a tree in text: tree N K, and for each edge a line with its parent and its thousandths; or the line of the
-- refusal. Its input is a names record with the text right behind it.
use Rattle.std.specs.Prelude.{◌≡◌, cond, List, [], ◌∷◌, ◌++◌, ℕ, ◌+◌, ◌*◌, ltb, ℤ, pos, length, get_or, take, drop, Result, Ok, Err}
use Rattle.exact.specs.Table.{entry_of}
use Rattle.verdict.specs.declared.Refusal.{Refusal}
use Rattle.verdict.specs.Answer.{reason_number}
use Rattle.matrix.specs.Limits.{max_strains}
use Rattle.records.specs.Names.{max_name}
use Rattle.records.specs.Form.{head_size, end_at}
use Rattle.writing.specs.Text.{Wrote}
use Rattle.lines.specs.Lines.{line, edge_lines, refused_line}
use Rattle.newick_text.specs.Tree.{max_text}
use Rattle.newick_survey.specs.Text.{Surveyed}
use Rattle.newick_survey.specs.declared.Survey.{Survey}

-- ---- the input
-- how much of it is looked at: the longest names record that passes, the longest text, and a byte more
abbrev pub input_size : ℕ
input_size = head_size + (max_name + 1) * max_strains + max_text + 1

-- where the names record ends: where its length says, or with the input where it is cut
abbrev pub record_end : List ℕ → ℕ
record_end s = cond (ltb (length s) head_size) (length s) (cond (ltb (length s) (end_at s 0)) (length s) (end_at s 0))

abbrev pub names_part : List ℕ → List ℕ
names_part s = take (record_end s) s

abbrev pub text_part : List ℕ → List ℕ
text_part s = drop (record_end s) s

-- ---- the print
-- "tree"
abbrev pub tree_word : List ℕ
tree_word = 116 ∷ 114 ∷ 101 ∷ 101 ∷ []

abbrev pub row_of : List ℕ → List ℤ → ℕ → List ℤ
row_of parents thousandths e = pos (get_or parents e 0) ∷ entry_of thousandths e ∷ []

unfoldable pub tree_lines : ℕ → ℕ → List ℕ → List ℤ → List ℕ
tree_lines N K parents thousandths = line tree_word (pos N ∷ pos K ∷ []) ++ edge_lines K (row_of parents thousandths)

abbrev pub survey_text : Result Survey Refusal → List ℕ
survey_text (Ok v) = tree_lines v.strains v.edges v.parents v.numerators
survey_text (Err q) = refused_line (reason_number q.reason) q.place

-- the print of what the input shows
pub record Printed (s before after : List ℕ) (next : ℕ) : Type 0 where
  pub found : Result Survey Refusal
  pub surveyed : Surveyed (names_part s) (text_part s) found
  pub wrote : Wrote before after 0 (survey_text found) next
