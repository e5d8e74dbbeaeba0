-- `own_bits`: the loop fills the table from the front, and past n there is nothing to fill.
use borrow.Author.Rules.{rules}
use mathlib.Core.Path.{◌∙◌, ap}
use mathlib.Core.List.{List}
use Prim.Native.Nat.{ℕ, ◌-◌}
use native.Mathlib.Omega.{arith}
use borrow.Author.Tests.{lt-ltb, le-ltb}
use lib.ListN.{length, get_or, length-set}
use Rattle.exact.proofs.Fill.{fill_none, fill_more, filled-whole, length-table, get_or_table_const, table_is}
use Rattle.tree_theory.proofs.Masks.{shl_one}
use Rattle.clusters.proofs.own_bits.Invariants.{own}
use Rattle.clusters.proofs.own_bits.Goals as goal

pub loop-i-init : goal.loop-i-init
loop-i-init c = let e = c.filled-masks.ensures.throughout in (
  search rules,
  ap length e ∙ length-table 126 _,
  fill_none 0 _ _ c.filled-masks.result (λ w. ap (λ (l : List ℕ). get_or l w 0) e ∙ get_or_table_const 126 0 w),
)

pub loop-i-preserved : goal.loop-i-preserved
loop-i-preserved c = let n = c.args.n in
    let i = c.loop-i.i in
    let l = c.loop-i.masks in (
      search rules,
      simp length-set c.loop-i.invariant.1,
      fill_more 0 (own n) (λ _. 0) i l _ (omega arith) (shl_one i (omega (arith, c.requires)) ∙ rw (lt-ltb i n (omega arith))) c.loop-i.invariant.2,
    )

pub returns : goal.returns
returns c = let n = c.args.n in
    let i = c.loop-i.i in
    let l = c.loop-i.masks in
    table_is 0 (own n) 126 l c.loop-i.invariant.1
    (λ w _. filled-whole 0 (own n) (λ _. 0) i l c.loop-i.invariant.2 (λ k h. rw (le-ltb k n (omega arith))) w)
