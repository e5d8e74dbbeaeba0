-- The run is followed byte by byte, and each digit goes behind those read, until a byte is no digit or the text ends.
use mathlib.Core.Path.{◌≡◌, sym, ◌∙◌}
use native.Mathlib.Omega.{arith}
use lib.ListN.{length}
use Rattle.newick_words.proofs.Gathering.{gathered_none, gathered-more, gathered-stop, gathered-end}
use Rattle.newick_words.proofs.digits_at.Goals as goal

pub loop-end-init : goal.loop-end-init
loop-end-init c = gathered_none c.args.text.now c.args.at c.requires

pub returns-then-not-is_digit : goal.returns-then-not-is_digit
returns-then-not-is_digit c = gathered-stop c.args.text.now c.args.at c.requires c.loop-end.end c.loop-end.number c.loop-end.invariant c.loop-end-test.true (sym c.is_digit.ensures ∙ c.if-not-is_digit.true)

pub longer-number-requires : goal.longer-number-requires
longer-number-requires c = c.loop-end.invariant.small

pub loop-end-preserved : goal.loop-end-preserved
loop-end-preserved c = gathered-more c.args.text.now c.args.at c.requires c.loop-end.end c.loop-end.number c.loop-end.invariant c.loop-end-test.true (sym c.is_digit.ensures ∙ c.if-not-is_digit.false) c.longer-number.result c.longer-number.ensures.0 c.longer-number.ensures.1

pub returns : goal.returns
returns c = let e : c.loop-end.end ≡ length c.args.text.now = omega arith in
    rw e at (gathered-end c.args.text.now c.args.at c.requires c.loop-end.end c.loop-end.number c.loop-end.invariant c.loop-end-test.false)
