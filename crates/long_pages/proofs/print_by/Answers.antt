-- A smaller buffer is left as it was.
use Rattle.pages.proofs.Texts.{small_page}
use Rattle.long_pages.proofs.Shown.{long_page}
use Rattle.long_pages.proofs.print_by.Goals as goal

pub returns-then-text-lt-LONG_PAGE : goal.returns-then-text-lt-LONG_PAGE
returns-then-text-lt-LONG_PAGE c = small_page _ _ _ c.if-text-lt-LONG_PAGE.true

pub returns : goal.returns
returns c = long_page c.if-text-lt-LONG_PAGE.false c.print_long.ensures
