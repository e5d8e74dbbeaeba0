-- Those before a byte, and those from it on; the first one too many tells.
use mathlib.Core.Path.{sym, subst}
use Prim.Native.Nat.{ℕ, ◌+◌}
use Rattle.newick_form.proofs.Tallying.{Tallied, tally-more, tally-over, tally-same, tally-end}
use Rattle.newick_form.proofs.count_is.Goals as goal
use Rattle.newick_form.proofs.count_is.Goals.{then-next-byte+else-left-eq0, else-next-byte}

pub returns-then-left-eq0 : goal.returns-then-left-eq0
returns-then-left-eq0 c = let p = c.args in tally-over p.text.now p.byte p.count c.loop-next.left c.loop-next.next-index c.loop-next-test.true c.loop-next.invariant c.if-next-byte.true c.if-left-eq0.true

pub loop-next-preserved : goal.loop-next-preserved
loop-next-preserved c = let p = c.args in elim c.if-next-byte.branch [
  | then-next-byte+else-left-eq0 w ↦ subst (λ (n : ℕ). Tallied p.text.now p.byte p.count n (c.loop-next.next-index + 1)) (sym w.left-is) (tally-more p.text.now p.byte p.count c.loop-next.left c.loop-next.next-index c.loop-next-test.true c.loop-next.invariant w.if-next-byte.true w.if-left-eq0.false)
  | else-next-byte w ↦ subst (λ (n : ℕ). Tallied p.text.now p.byte p.count n (c.loop-next.next-index + 1)) (sym w.left-is) (tally-same p.text.now p.byte p.count c.loop-next.left c.loop-next.next-index c.loop-next-test.true c.loop-next.invariant w.if-next-byte.false)
]

pub returns : goal.returns
returns c = let p = c.args in tally-end p.text.now p.byte p.count c.loop-next.left c.loop-next.next-index c.loop-next-test.false c.loop-next.invariant
