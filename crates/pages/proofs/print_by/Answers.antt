-- The report is shown, and its text is the sheet's.
use Rattle.pages.proofs.Texts.{small_page}
use Rattle.pages.proofs.Sheets.{few-edges, shows-sheet}
use Rattle.pages.proofs.print_by.Goals as goal

pub returns-then-text-lt-PAGE : goal.returns-then-text-lt-PAGE
returns-then-text-lt-PAGE c = small_page _ _ _ c.if-text-lt-PAGE.true

pub report_text-requires : goal.report_text-requires
report_text-requires c = record {
  edges_le_max_edges = few-edges _ _ c.sheet_report.result c.sheet_report.ensures;
  page_size_in_bounds = c.if-text-lt-PAGE.false;
}

pub returns : goal.returns
returns c = shows-sheet _ _ c.sheet_report.result c.sheet_report.ensures _ _ _ c.if-text-lt-PAGE.false c.report_text.ensures
