-- The run is followed byte by byte, until a byte is LF or the buffer ends.
use mathlib.Core.Path.{◌≡◌, ap}
use mathlib.Core.Bool.{not}
use native.Mathlib.Omega.{arith}
use lib.ListN.{length}
use borrow.Author.Tests.{eq-eqb, ne_eqb}
use Rattle.digits.proofs.Reading.{run_more, run-stop, run_end}
use Rattle.desk_feed.specs.Feed.{in_line}
use Rattle.desk_feed.proofs.feed_end.Goals as goal

pub returns-then-text-end-eq10 : goal.returns-then-text-end-eq10
returns-then-text-end-eq10 c = run-stop in_line c.args.text.now c.args.at c.loop-end.end c.loop-end-test.true (ap not (eq-eqb _ 10 c.if-text-end-eq10.true)) c.loop-end.invariant

pub loop-end-preserved : goal.loop-end-preserved
loop-end-preserved c = run_more in_line c.args.text.now c.args.at c.loop-end.end c.loop-end-test.true (ap not (ne_eqb _ 10 c.if-text-end-eq10.false)) c.loop-end.invariant

pub returns : goal.returns
returns c = let e : c.loop-end.end ≡ length c.args.text.now = omega arith in
    rw e at (run_end in_line c.args.text.now c.args.at c.loop-end.end c.loop-end-test.false c.loop-end.invariant)
