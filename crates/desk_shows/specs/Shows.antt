-- What a bench is shown of its table (RULES, The desk's lines): its report or its pairs, on what is posted now, or what the report is refused for.
use Rattle.std.specs.Prelude.{◌≡◌, List, [], ℕ, ◌≤◌, ℤ, length, Result, IfOk}
use Rattle.verdict.specs.declared.Rule.TheVariants.{Plain}
use Rattle.writing.specs.Text.{decimal}
use Rattle.answer_lines.specs.Texts.{by_answer, fit_of, report_text}
use Rattle.pair_lines.specs.Lines.{pairs_text}
use Rattle.verdict.specs.declared.Refusal.{Refusal}
use Rattle.tree_theory.specs.Limits.{max_edges}
use Rattle.sheet.specs.declared.SheetFit.{SheetFit}
use Rattle.desk_theory.specs.Desk as calls
use Rattle.desk.specs.declared.Desk.{Desk}
use Rattle.desk.specs.Held.{desk_of}
use Rattle.desk_text.specs.declared.View.{View}
use Rattle.desk_text.specs.declared.View.TheVariants as views

-- how many edges the posted tree has: a bench that asks for its report gets a buffer of so many entries
abbrev pub edges_of : calls.Posting → ℕ
edges_of p = calls.on_posting p 0 (λ N ds ps. length ps)

-- the print of lengths over D on a matrix and a tree: the report as bin/report prints it for the sheet of the three, or the pairs, each strain
-- called by its number
abbrev pub view_text : View → ℕ → List ℕ → List ℕ → ℕ → List ℤ → List ℕ
view_text views.Report N ds ps D ns = fit_of Plain N ds ps D ns
view_text views.Pairs N ds ps D ns = pairs_text decimal N ds ps D ns

-- of a table on what is posted
abbrev pub table_text : View → calls.Posting → calls.Table → List ℕ
table_text v calls.nothing t = []
table_text v (calls.matrix_tree N ds ps) calls.none = []
table_text v (calls.matrix_tree N ds ps) (calls.lengths D ns) = view_text v N ds ps D ns

-- what a bench is shown: that of its table, or the refusal of its report
unfoldable pub show_text : calls.Desk → View → ℕ → List ℕ
show_text d v b = by_answer (calls.answer d (calls.report b (edges_of d.posting))) (table_text v d.posting (d.tables b))

-- the report of a bench's table with its two tables, or the refusal: its print is what the bench is shown
pub record ShownReport (d : Desk) (b : ℕ) (r : Result SheetFit Refusal) : Type 0 where
  pub few : IfOk r (λ x. x.report.edges ≤ max_edges)
  pub text : report_text Plain r ≡ show_text (desk_of d) views.Report b
