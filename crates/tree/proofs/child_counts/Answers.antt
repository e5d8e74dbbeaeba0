-- `child_counts`: after v turns the table holds how many of the vertices below v are children of each vertex.
use borrow.Author.Rules.{rules}
use mathlib.Core.Path.{◌≡◌, ◌∙◌, ap}
use mathlib.Core.List.{List}
use Prim.Native.Nat.{ℕ}
use native.Mathlib.Omega.{arith}
use lib.ListN.{length, get_or, length-set}
use Rattle.exact.proofs.Fill.{length-table, get_or_table_const}
use Rattle.verdict.proofs.Table.{count-le}
use Rattle.tree_theory.specs.Chain.{parent_of, kid}
use Rattle.tree.proofs.Tally.{tally-none, tally-more}
use Rattle.tree.proofs.child_counts.Goals as goal

pub loop-parent-init : goal.loop-parent-init
loop-parent-init c = let e = c.filled-counts.ensures.throughout in (
  search rules,
  ap length e ∙ length-table 126 _,
  tally-none _ c.filled-counts.result (λ w. ap (λ (l : List ℕ). get_or l w 0) e ∙ get_or_table_const 126 0 w),
)

pub bounds-counts-p : goal.bounds-counts-p
bounds-counts-p c = omega (arith, c.requires.by_index c.loop-parent.parent-index (omega arith))

pub overflow_add-counts : goal.overflow_add-counts
overflow_add-counts c = let ps = c.args.parents.now in
    let v = c.loop-parent.parent-index in
    let par = parent_of ps in
    omega (arith, c.loop-parent.invariant.2 (par v), count-le v (kid par (par v)), c.requires.parents_len_bound)

pub bounds-counts-p-in-loop-parent : goal.bounds-counts-p-in-loop-parent
bounds-counts-p-in-loop-parent c = omega (arith, c.requires.by_index c.loop-parent.parent-index (omega arith))

pub loop-parent-preserved : goal.loop-parent-preserved
loop-parent-preserved c = let ps = c.args.parents.now in
    let v = c.loop-parent.parent-index in
    let l = c.loop-parent.counts in (
      search rules,
      simp length-set c.loop-parent.invariant.1,
      tally-more (parent_of ps) v l (omega (arith, c.requires.by_index c.loop-parent.parent-index (omega arith))) c.loop-parent.invariant.2,
    )

pub returns : goal.returns
returns c = let e : c.loop-parent.parent-index ≡ length c.args.parents.now = omega arith in
    rw (← e) c.loop-parent.invariant.2
