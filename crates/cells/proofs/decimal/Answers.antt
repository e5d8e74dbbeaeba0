-- With a point and without: the digits are read on from the whole part, and zeros up to four places behind them.
use mathlib.Core.Path.{◌≡◌}
use mathlib.Core.Logic.{◌≢◌}
use lib.ListN.{get_or}
use mathlib.Core.Path.{sym, ◌∙◌}
use lib.ListN.{drop}
use Rattle.cells.proofs.Units.{seen_as, places-none, units_none, places-some, units_some}
use Rattle.cells.proofs.decimal.Goals as goal

pub returns-then-byte_at-ne46 : goal.returns-then-byte_at-ne46
returns-then-byte_at-ne46 c = let dotless : get_or c.args.text.now c.digits_end-point.result 0 ≢ 46 = λ e. c.if-byte_at-ne46.true (c.byte_at.ensures ∙ e) in
    seen_as (drop c.args.at c.args.text.now) 0 c.scaled.result c.judged.result (sym (places-none c.args.text.now c.args.at c.digits_end-point.result c.digits_end-point.ensures.0 dotless))
    (units_none c.args.text.now c.args.at c.digits_end-point.result c.digits_end-point.ensures.0 dotless c.number-whole.result c.scaled.result c.number-whole.ensures.0 c.scaled.ensures.0) c.judged.ensures

pub returns : goal.returns
returns c = let dot : get_or c.args.text.now c.digits_end-point.result 0 ≡ 46 = sym c.byte_at.ensures ∙ c.if-byte_at-ne46.false in
    seen_as (drop c.args.at c.args.text.now) _ c.scaled-2.result c.judged-2.result (sym (places-some c.args.text.now c.args.at c.digits_end-point.result c.digits_end-point.ensures.0 dot c.digits_end-end.result c.digits_end-end.ensures.0))
    (units_some c.args.text.now c.args.at c.digits_end-point.result c.digits_end-point.ensures.0 dot c.digits_end-end.result c.digits_end-end.ensures.0 c.number-whole.result c.number-all.result c.scaled-2.result c.number-whole.ensures.0 c.number-all.ensures.0 c.scaled-2.ensures.0) c.judged-2.ensures
