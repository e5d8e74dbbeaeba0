-- By the view that was asked for.
use Rattle.desk_shows.proofs.Showing.{shown_as, pairs-shown}
use Rattle.desk_shows.proofs.show_lines.Goals as goal

pub returns-in-Pairs : goal.returns-in-Pairs
returns-in-Pairs c = shown_as _ _ _ _ _ _ _ c.in-Pairs.is (pairs-shown c.args.desk c.args.bench _ _ _ c.pairs_text.ensures)
