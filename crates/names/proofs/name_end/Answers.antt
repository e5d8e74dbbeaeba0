-- The run is followed byte by byte, until a byte stands in no name or the text ends.
use mathlib.Core.Path.{◌≡◌, sym, ◌∙◌}
use native.Mathlib.Omega.{arith}
use lib.ListN.{length}
use Rattle.names.specs.Name.{is_name_byte}
use Rattle.digits.proofs.Reading.{run-start, run_more, run-stop, run_end}
use Rattle.names.proofs.name_end.Goals as goal

pub loop-end-init : goal.loop-end-init
loop-end-init c = run-start is_name_byte c.args.text.now c.args.at c.requires

pub returns-then-not-is_name_byte : goal.returns-then-not-is_name_byte
returns-then-not-is_name_byte c = run-stop is_name_byte c.args.text.now c.args.at c.loop-end.end c.loop-end-test.true (sym c.is_name_byte.ensures ∙ c.if-not-is_name_byte.true) c.loop-end.invariant

pub loop-end-preserved : goal.loop-end-preserved
loop-end-preserved c = run_more is_name_byte c.args.text.now c.args.at c.loop-end.end c.loop-end-test.true (sym c.is_name_byte.ensures ∙ c.if-not-is_name_byte.false) c.loop-end.invariant

pub returns : goal.returns
returns c = let e : c.loop-end.end ≡ length c.args.text.now = omega arith in
    rw e at (run_end is_name_byte c.args.text.now c.args.at c.loop-end.end c.loop-end-test.false c.loop-end.invariant)
