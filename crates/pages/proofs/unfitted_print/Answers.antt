-- The direct fit is shown, and its text is the sheet's.
use Rattle.pages.proofs.Texts.{small_page}
use Rattle.pages.proofs.Unfitted.{few-edges, shows-unfitted}
use Rattle.pages.proofs.unfitted_print.Goals as goal

pub returns-then-text-lt-PAGE : goal.returns-then-text-lt-PAGE
returns-then-text-lt-PAGE c = small_page _ _ _ c.if-text-lt-PAGE.true

pub direct_text-requires : goal.direct_text-requires
direct_text-requires c = record {
  edges_le_max_edges = few-edges _ c.unfitted_fit.result c.unfitted_fit.ensures;
  page_size_in_bounds = c.if-text-lt-PAGE.false;
}

pub returns : goal.returns
returns c = shows-unfitted _ c.unfitted_fit.result c.unfitted_fit.ensures _ _ _ c.if-text-lt-PAGE.false c.direct_text.ensures
