-- What the program answers: the text of the matrix and the names that a text holds, or the line of the refusal.
use Rattle.std.specs.Prelude.{cond, List, ℕ, ltb}
use Rattle.verdict.specs.Answer.{Answer, pass, fault, ◌or_else◌}
use Rattle.matrix.specs.Limits.{max_strains}
use Rattle.lines.specs.Lines.{refused_line}
use Rattle.phylip_text.specs.Form.{count_of, rows_of, distances_read, names_read}
use Rattle.phylip_text.specs.Tests.{entries, text_tests, matter_tests}
use Rattle.phylip_text.specs.Text.{text_of}

-- as many strains as the count says, none where it says more than a matrix may have
abbrev pub strains_for : List ℕ → ℕ
strains_for t = cond (ltb max_strains (count_of t)) 0 (count_of t)

-- the distances and the names of a text
abbrev pub distances_in : List ℕ → List ℕ
distances_in t = distances_read (count_of t) (entries t)

abbrev pub names_in : List ℕ → List ℕ
names_in t = names_read (count_of t) (rows_of t)

-- what the text is asked, and then what it holds
abbrev pub again_tests : List ℕ → Answer
again_tests t = text_tests t or_else matter_tests (count_of t) (distances_in t) (names_in t)

abbrev pub by_answer : Answer → List ℕ → List ℕ
by_answer pass text = text
by_answer (fault k p) text = refused_line k p

unfoldable pub again_text : List ℕ → List ℕ
again_text t = by_answer (again_tests t) (text_of (count_of t) (distances_in t) (names_in t))
