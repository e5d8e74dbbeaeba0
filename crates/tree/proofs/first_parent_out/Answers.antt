-- `first_parent_out`: while the loop runs, no parent met so far is at fault.
use borrow.Author.Rules.{rules}
use mathlib.Core.Path.{sym}
use native.Mathlib.Omega.{arith}
use borrow.Author.Count.{below_none, below_more}
use lib.ListN.{length}
use Rattle.verdict.proofs.Table.{first-is, past_first}
use Rattle.tree_theory.specs.Chain.{parent_of}
use Rattle.tree_theory.proofs.Faults.{not_above, at-strain, past-root, parent_in}
use Rattle.tree.proofs.first_parent_out.Goals as goal

pub loop-v-init : goal.loop-v-init
loop-v-init c = (search rules, below_none _)

pub returns-then-p-v : goal.returns-then-p-v
returns-then-p-v c = let ps = c.args.parents.now in
    let n = c.args.n in
    let v = c.loop-v.v in
    sym (first-is (length ps) _ v (omega arith) (not_above n (length ps) (parent_of ps) v c.if-p-v.true) c.loop-v.invariant.1)

pub returns-then-p-n : goal.returns-then-p-n
returns-then-p-n c = let ps = c.args.parents.now in
    let n = c.args.n in
    let v = c.loop-v.v in
    sym (first-is (length ps) _ v (omega arith) (at-strain n (length ps) (parent_of ps) v c.if-p-n.true) c.loop-v.invariant.1)

pub returns-then-p-edges : goal.returns-then-p-edges
returns-then-p-edges c = let ps = c.args.parents.now in
    let n = c.args.n in
    let v = c.loop-v.v in
    sym (first-is (length ps) _ v (omega arith) (past-root n (length ps) (parent_of ps) v c.if-p-edges.true) c.loop-v.invariant.1)

pub loop-v-preserved : goal.loop-v-preserved
loop-v-preserved c = let ps = c.args.parents.now in
    let n = c.args.n in
    let v = c.loop-v.v in
    (search rules, below_more _ _ c.loop-v.invariant.1 (parent_in n (length ps) (parent_of ps) v (omega arith) (omega arith) (omega arith)))

pub returns : goal.returns
returns c = sym (past_first _ _ (λ i l. c.loop-v.invariant.1 i (omega arith)))
