-- After v turns the counts are those of the vertices below v, and each of those stands at its parent's place for it.
use mathlib.Core.Path.{◌≡◌, sym, ◌∙◌, ap, subst}
use mathlib.Core.List.{List}
use Prim.Native.Nat.{ℕ, ◌+◌, ◌-◌, ◌*◌, ◌≤◌, ◌<◌}
use native.Mathlib.Omega.{arith}
use lib.ListN.{length, get_or, set, length-set}
use Rattle.exact.proofs.Fill.{length-table, get_or_table_const}
use Rattle.verdict.specs.Table.{count}
use Rattle.tree_theory.specs.Limits.{max_edges, max_vertices}
use Rattle.tree_theory.specs.Chain.{parent_of, kid}
use Rattle.tree.proofs.Tally.{tally-none, tally-more}
use Rattle.direct_theory.specs.Children.{child_to}
use Rattle.neighbours.specs.Listed.{child_room}
use Rattle.neighbours.proofs.Listing.{Lists, lists_none, lists_more, room}
use Rattle.neighbours.proofs.child_table.Goals as goal
use Rattle.neighbours.proofs.child_table.Goals.{In-loop-v, Start}

-- what is known at a turn
module _ (c : In-loop-v) where
  abbrev start : Start
  start = c.before.before.before.before.before.before

  abbrev K : ℕ
  K = length start.args.parents.now

  abbrev par : ℕ → ℕ
  par = parent_of start.args.parents.now

  abbrev v : ℕ
  v = c.loop-v.v

  edge : v < K
  edge = omega arith

  few : K ≤ max_edges
  few = omega (arith, start.requires.allowed.few, start.requires.allowed.most)

  top : par v ≤ max_edges
  top = omega (arith, few, start.requires.allowed.top v edge)

  put : get_or c.loop-v.counts (par v) 0 ≡ count v (kid par (par v))
  put = c.loop-v.invariant.3 (par v)

  less : get_or c.loop-v.counts (par v) 0 < 3
  less = omega (
    arith,
    put,
    room start.args.n K par
        start.requires.allowed start.requires.resolved v edge,
  )

pub loop-v-init : goal.loop-v-init
loop-v-init c = let e = c.filled-listed.ensures.throughout in let f = c.filled-counts.ensures.throughout in
    let par = parent_of c.args.parents.now in (
      omega arith,
      ap length e ∙ length-table child_room _,
      ap length f ∙ length-table max_vertices _,
      tally-none par c.filled-counts.result (λ w. ap (λ (l : List ℕ). get_or l w 0) f ∙ get_or_table_const max_vertices 0 w),
      lists_none par c.filled-listed.result (λ k. ap (λ (l : List ℕ). get_or l k 0) e ∙ get_or_table_const child_room 0 k),
    )

pub bounds-parents-v : goal.bounds-parents-v
bounds-parents-v c = omega (arith, edge (goal.at.bounds-parents-v c).In-loop-v)

pub overflow_cast-p : goal.overflow_cast-p
overflow_cast-p c = record { fits = omega (arith, top (goal.at.overflow_cast-p c).In-loop-v) }

pub bounds-counts-p : goal.bounds-counts-p
bounds-counts-p c = omega (arith, top (goal.at.bounds-counts-p c).In-loop-v)

pub overflow_cast-listed : goal.overflow_cast-listed
overflow_cast-listed c = record { fits = omega (arith, few (goal.at.overflow_cast-listed c).In-loop-v, edge (goal.at.overflow_cast-listed c).In-loop-v) }

pub overflow_mul-listed : goal.overflow_mul-listed
overflow_mul-listed c = record { fits = omega (arith, top (goal.at.overflow_mul-listed c).In-loop-v) }

pub overflow_cast-listed-in-loop-v : goal.overflow_cast-listed-in-loop-v
overflow_cast-listed-in-loop-v c = record { fits = omega (arith, less (goal.at.overflow_cast-listed-in-loop-v c).In-loop-v) }

pub overflow_add-listed : goal.overflow_add-listed
overflow_add-listed c = record { fits = omega (arith, top (goal.at.overflow_add-listed c).In-loop-v, less (goal.at.overflow_add-listed c).In-loop-v) }

pub bounds-listed-p : goal.bounds-listed-p
bounds-listed-p c = omega (arith, top (goal.at.bounds-listed-p c).In-loop-v, less (goal.at.bounds-listed-p c).In-loop-v)

pub overflow_add-counts : goal.overflow_add-counts
overflow_add-counts c = record { fits = omega (arith, less (goal.at.overflow_add-counts c).In-loop-v) }

pub bounds-counts-p-in-loop-v : goal.bounds-counts-p-in-loop-v
bounds-counts-p-in-loop-v c = omega (arith, top (goal.at.bounds-counts-p-in-loop-v c).In-loop-v)

pub loop-v-preserved : goal.loop-v-preserved
loop-v-preserved c = let l = c.loop-v.listed in let i = c.loop-v.invariant in (
  omega (arith, edge (goal.at.loop-v-preserved c).In-loop-v),
  simp length-set i.1,
  simp length-set i.2,
  tally-more (par (goal.at.loop-v-preserved c).In-loop-v) (v (goal.at.loop-v-preserved c).In-loop-v) c.loop-v.counts (omega (arith, top (goal.at.loop-v-preserved c).In-loop-v, i.2)) i.3,
  subst (λ k. Lists (par (goal.at.loop-v-preserved c).In-loop-v) (v (goal.at.loop-v-preserved c).In-loop-v + 1) (set l (3 * par (goal.at.loop-v-preserved c).In-loop-v (v (goal.at.loop-v-preserved c).In-loop-v) + k) (v (goal.at.loop-v-preserved c).In-loop-v))) (sym (put (goal.at.loop-v-preserved c).In-loop-v)) (lists_more (par (goal.at.loop-v-preserved c).In-loop-v) (v (goal.at.loop-v-preserved c).In-loop-v) l i.1 (top (goal.at.loop-v-preserved c).In-loop-v) (subst (λ k. k < 3) (put (goal.at.loop-v-preserved c).In-loop-v) (less (goal.at.loop-v-preserved c).In-loop-v)) i.4),
)

pub returns : goal.returns
returns c = let i = c.loop-v.invariant in
    let e : c.loop-v.v ≡ length c.args.parents.now = omega arith in
    record { size = i.1; child = λ w k h l. subst (λ x. get_or c.loop-v.listed (3 * w + k) 0 ≡ child_to (parent_of c.args.parents.now) w k x) e (i.4 w k h l) }
