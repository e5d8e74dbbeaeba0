-- The print of a sheet with names: the text of its fitted tree and a line end, or the line of its refusal.
use Rattle.std.specs.Prelude.{List, ◌++◌, ℕ, ◌+◌}
use Rattle.lines.specs.Lines.{end}
use Rattle.answer_lines.specs.Texts.{by_answer}
use Rattle.newick_text.specs.Tree.{max_text}
use Rattle.sheet_names.specs.Labels.{named_tests}
use Rattle.newick_sheet.specs.Named.{named_text}

-- the print
abbrev pub newick_text : List ℕ → List ℕ
newick_text s = by_answer (named_tests s) (named_text s ++ end)

-- a page for it: a text and a line end
abbrev pub newick_page : ℕ
newick_page = max_text + 1
