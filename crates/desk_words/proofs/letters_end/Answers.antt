-- The run is followed byte by byte, until a byte is a blank or the line ends.
use mathlib.Core.Path.{◌≡◌, sym, ◌∙◌, ap}
use mathlib.Core.Bool.{not}
use native.Mathlib.Omega.{arith}
use lib.ListN.{length}
use Rattle.desk_text.specs.Words.{is_letter}
use Rattle.digits.proofs.Reading.{run_more, run-stop, run_end}
use Rattle.desk_words.proofs.letters_end.Goals as goal

pub returns-then-is_blank : goal.returns-then-is_blank
returns-then-is_blank c = run-stop is_letter c.args.line.now c.args.at c.loop-end.end c.loop-end-test.true (ap not (sym c.is_blank.ensures ∙ c.if-is_blank.true)) c.loop-end.invariant

pub loop-end-preserved : goal.loop-end-preserved
loop-end-preserved c = run_more is_letter c.args.line.now c.args.at c.loop-end.end c.loop-end-test.true (ap not (sym c.is_blank.ensures ∙ c.if-is_blank.false)) c.loop-end.invariant

pub returns : goal.returns
returns c = let e : c.loop-end.end ≡ length c.args.line.now = omega arith in
    rw e at (run_end is_letter c.args.line.now c.args.at c.loop-end.end c.loop-end-test.false c.loop-end.invariant)
