-- `columns`: the loop fills the table from the front, and past n there is nothing to fill.
use borrow.Author.Rules.{rules}
use mathlib.Core.Path.{◌∙◌, ap}
use mathlib.Core.List.{List}
use Prim.Native.Nat.{ℕ, ◌-◌}
use native.Mathlib.Omega.{arith}
use borrow.Author.Tests.{lt-ltb, le-ltb}
use lib.ListN.{length, get_or, length-set}
use Rattle.exact.proofs.Fill.{fill_none, fill_more, filled-whole, length-table, get_or_table_const, table_is}
use Rattle.gaps.proofs.Parting.{column-room}
use Rattle.gaps.proofs.columns.Invariants.{whole}
use Rattle.gaps.proofs.columns.Goals as goal

pub loop-k-init : goal.loop-k-init
loop-k-init c = let e = c.filled-masks.ensures.throughout in (
  search rules,
  ap length e ∙ length-table 64 _,
  fill_none 0 _ _ c.filled-masks.result (λ w. ap (λ (l : List ℕ). get_or l w 0) e ∙ get_or_table_const 64 0 w),
)

pub column-requires : goal.column-requires
column-requires c = (omega (arith, c.requires.0), omega (arith, c.requires.1, column-room c.args.n c.loop-k.k (omega arith)))

pub loop-k-preserved : goal.loop-k-preserved
loop-k-preserved c = let k = c.loop-k.k in
    let l = c.loop-k.masks in
    let f = whole c.args.n c.args.distances.now in (
      search rules,
      simp length-set c.loop-k.invariant.1,
      fill_more 0 f (λ _. 0) k l _ (omega (arith, c.requires.0)) (c.column.ensures ∙ rw (lt-ltb k c.args.n (omega arith))) c.loop-k.invariant.2,
    )

pub returns : goal.returns
returns c = let f = whole c.args.n c.args.distances.now in
    let k = c.loop-k.k in
    let l = c.loop-k.masks in
    table_is 0 f 64 l c.loop-k.invariant.1
    (λ w _. filled-whole 0 f (λ _. 0) k l c.loop-k.invariant.2 (λ i h. rw (le-ltb i c.args.n (omega arith))) w)
