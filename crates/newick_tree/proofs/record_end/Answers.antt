-- By what is less.
use native.Mathlib.Omega.{arith}
use borrow.Author.Tests.{lt-ltb}
use Rattle.newick_tree.proofs.Printing.{end-cut, end-there}
use Rattle.newick_tree.proofs.record_end.Goals as goal

pub returns-then-s-lt-HEAD : goal.returns-then-s-lt-HEAD
returns-then-s-lt-HEAD c = (simp (lt-ltb _ _ c.if-s-lt-HEAD.true), omega arith)

pub returns-then-s-end : goal.returns-then-s-end
returns-then-s-end c = let s = c.args.s.now in
    (end-cut s c.u32_at.result c.if-s-lt-HEAD.false c.u32_at.ensures c.if-s-end.true, omega arith)

pub returns : goal.returns
returns c = let s = c.args.s.now in
    (end-there s c.u32_at.result c.if-s-lt-HEAD.false c.u32_at.ensures c.if-s-end.false, omega arith)
