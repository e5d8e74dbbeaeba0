-- The bench's tests, then the numbers of the table that stands, with room for its edges.
use mathlib.Core.Path.{sym}
use Rattle.desk.proofs.Holding.{table-held}
use Rattle.verdict.proofs.Answers.{handed_on}
use Rattle.desk_shows.specs.Shows.{ShownReport}
use Rattle.desk_shows.proofs.Showing.{none-stands, held-there, front-size, numbers-shown}
use Rattle.desk_shows.proofs.report_of.Goals as goal

pub returns-in_err-standing : goal.returns-in_err-standing
returns-in_err-standing c = handed_on (ShownReport c.args.desk c.args.bench) _ _ c.from_residual.ensures (none-stands c.args.desk c.args.bench _ c.in_err-standing.ensures)

pub numbers_of-report-requires : goal.numbers_of-report-requires
numbers_of-report-requires c = let h = held-there c.args.desk c.args.bench c.requires _ c.in_ok-standing.ensures in record {
  posting_held = h.posting;
  table_held = table-held _ c.args.bench _ h c.in_ok-standing.ensures.standing.table;
  rounded_len = sym (front-size c.args.desk c.args.bench c.requires _ c.in_ok-standing.ensures _ c.filled-rounded.ensures.throughout);
}

pub returns : goal.returns
returns c = numbers-shown c.args.desk c.args.bench c.requires _ c.in_ok-standing.ensures
    _ _ c.filled-rounded.ensures.throughout _ _ c.numbers_of-report.ensures
