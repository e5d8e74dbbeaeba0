-- The run is followed byte by byte, until a byte is no blank or the text ends.
use mathlib.Core.Path.{◌≡◌, sym, ◌∙◌}
use native.Mathlib.Omega.{arith}
use lib.ListN.{length}
use Rattle.digits.specs.Digits.{is_blank}
use Rattle.digits.proofs.Reading.{run-start, run_more, run-stop, run_end}
use Rattle.digits.proofs.blanks_end.Goals as goal

pub loop-end-init : goal.loop-end-init
loop-end-init c = run-start is_blank c.args.text.now c.args.at c.requires

pub returns-then-not-is_blank : goal.returns-then-not-is_blank
returns-then-not-is_blank c = run-stop is_blank c.args.text.now c.args.at c.loop-end.end c.loop-end-test.true (sym c.is_blank.ensures ∙ c.if-not-is_blank.true) c.loop-end.invariant

pub loop-end-preserved : goal.loop-end-preserved
loop-end-preserved c = run_more is_blank c.args.text.now c.args.at c.loop-end.end c.loop-end-test.true (sym c.is_blank.ensures ∙ c.if-not-is_blank.false) c.loop-end.invariant

pub returns : goal.returns
returns c = let e : c.loop-end.end ≡ length c.args.text.now = omega arith in
    rw e at (run_end is_blank c.args.text.now c.args.at c.loop-end.end c.loop-end-test.false c.loop-end.invariant)
